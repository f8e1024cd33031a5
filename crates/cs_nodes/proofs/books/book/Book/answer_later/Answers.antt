use Rattle.std.proofs.Common.{◌≡◌, inl}
use Rattle.cs_wire.specs.Answers.{answer_spelling}
use Rattle.cs_wire.specs.declared.answer.Answer.TheVariants.{Short}
use Rattle.cs_wire.specs.declared.short_answer.ShortAnswer.TheVariants.{Stale}
use Rattle.cs_nodes.proofs.BooksLemmas.Told.{stale_later}
use Rattle.cs_nodes.proofs.books.book.Book.answer_later.Goals as goal

pub returns-clause-served : goal.returns-clause-served
returns-clause-served g c = λ h.
    let empty = rw c.requires.empty at c.put.ensures in
    let told = rw c.newest-newest.ensures at empty in
    let here : c.put.new.out.items ≡ answer_spelling (Short (Stale c.catch_up.new.self.hub.newest)) = rw (← c.self.view_is) told in
    inl (inl (stale_later c.stale_behind_another.ensures c.args.self.now c.catch_up.new.self c.args._request.now c.put.new.out.items (c.requires.later (c.catch_up.ensures.later.was_honest h))
    c.catch_up.ensures.later.row c.catch_up.ensures.later.catalog c.catch_up.ensures.later.begins c.in-Ok.ensures.level (c.catch_up.ensures.front h) here))
