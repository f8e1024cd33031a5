use Rattle.std.proofs.Common.{◌≡◌, Some, slice_get}
use Rattle.cs_store.specs.declared.fault.StoreFault.TheVariants.{Device}
use Rattle.cs_nodes.specs.books.Books.{BookState}
use Rattle.cs_nodes.proofs.BooksLemmas.Goes.{book_again, ends_append, goes_on, has_taken}
use Rattle.cs_nodes.proofs.books.book.Book.take_judged.Goals as goal

pub invariant_of-self : goal.invariant_of-self
invariant_of-self g c =
    let here : slice_get c.self.inside.pass.known c.self.inside.hub.newest ≡ Some c.args.entry.now = rw (← c.self.view_is) at c.requires.known in
    let book : BookState g.row.S.Denot = record { row = c.self.inside.spine.now; hub = c.self.inside.hub; pass = c.self.inside.pass } in
    book_again g.S.RowStore book c.self.invariant c.args.entry.now here c.append_judged.new.self c.append_judged.ensures.catalog
    Device c.append_judged.result c.append_judged.ensures.writes c.append_judged.ensures.counted c.append_judged.ensures.kept c.append_judged.ensures.widens c.append_judged.ensures.appended

pub returns-clause-later : goal.returns-clause-later
returns-clause-later g c =
    let here : slice_get c.self.inside.pass.known c.self.inside.hub.newest ≡ Some c.args.entry.now = rw (← c.self.view_is) at c.requires.known in
    let book : BookState g.row.S.Denot = record { row = c.self.inside.spine.now; hub = c.self.inside.hub; pass = c.self.inside.pass } in
    rw (← c.self.view_is)
    (goes_on g.S.RowStore book c.self.invariant c.args.entry.now here c.append_judged.new.self c.append_judged.ensures.catalog
    Device c.append_judged.result _ c.append_judged.ensures.writes c.append_judged.ensures.counted c.append_judged.ensures.kept
    (ends_append g.S.RowStore book c.self.invariant c.args.entry.now here c.append_judged.new.self c.append_judged.ensures.catalog c.append_judged.result))

pub returns-clause-front : goal.returns-clause-front
returns-clause-front g c =
    let here : slice_get c.self.inside.pass.known c.self.inside.hub.newest ≡ Some c.args.entry.now = rw (← c.self.view_is) at c.requires.known in
    let book : BookState g.row.S.Denot = record { row = c.self.inside.spine.now; hub = c.self.inside.hub; pass = c.self.inside.pass } in
    has_taken g.S.RowStore (record { row = c.self.inside.spine.now; hub = c.append_judged.new.self; pass = c.self.inside.pass })
    (book_again g.S.RowStore book c.self.invariant c.args.entry.now here c.append_judged.new.self c.append_judged.ensures.catalog
    Device c.append_judged.result c.append_judged.ensures.writes c.append_judged.ensures.counted c.append_judged.ensures.kept c.append_judged.ensures.widens c.append_judged.ensures.appended)
