use Rattle.std.proofs.Common.{[], ◌∷◌, subst, sym}
use Rattle.cs_spine.specs.Known.{Known}
use Rattle.cs_nodes.specs.books.Answers.{HasTaken}
use Rattle.cs_nodes.specs.books.Books.{BookState}
use Rattle.cs_nodes.proofs.BooksLemmas.Goes.{has_taken, has_taken_longer}
use Rattle.cs_nodes.proofs.books.book.Book.finds_more.Goals as goal

pub returns-in-Some-clause-begins : goal.returns-in-Some-clause-begins
returns-in-Some-clause-begins g c = (c.in-Some.field-0.now ∷ [], rw (← c.self.view_is) c.in-Some.ensures.entry)

pub returns-then-newest-len-clause-front : goal.returns-then-newest-len-clause-front
returns-then-newest-len-clause-front g c =
    let book : BookState g.row.S.Denot = record { row = c.self.inside.spine.now; hub = c.self.inside.hub; pass = c.self.inside.pass } in
    rw (← c.self.view_is) (has_taken g.S.RowStore book c.self.invariant)

pub returns-then-len-clause-front : goal.returns-then-len-clause-front
returns-then-len-clause-front g c =
    let book : BookState g.row.S.Denot = record { row = c.self.inside.spine.now; hub = c.self.inside.hub; pass = c.self.inside.pass } in
    rw (← c.self.view_is) (has_taken g.S.RowStore book c.self.invariant)

pub returns-in-Some-clause-front : goal.returns-in-Some-clause-front
returns-in-Some-clause-front g c = λ h.
    let book : BookState g.row.S.Denot = record { row = c.self.inside.spine.now; hub = c.self.inside.hub; pass = c.self.inside.pass } in
    has_taken_longer g.S.RowStore book c.self.invariant c.see.new.pass.known (c.in-Some.field-0.now ∷ [], c.in-Some.ensures.entry) h

pub returns-in-None-clause-front : goal.returns-in-None-clause-front
returns-in-None-clause-front g c = λ h.
    let book : BookState g.row.S.Denot = record { row = c.self.inside.spine.now; hub = c.self.inside.hub; pass = c.self.inside.pass } in
    subst (λ (pass : Known). HasTaken c.self.inside.hub.catalog pass.known c.self.inside.hub.newest) (sym c.in-None.ensures.entry) (has_taken g.S.RowStore book c.self.invariant h)
