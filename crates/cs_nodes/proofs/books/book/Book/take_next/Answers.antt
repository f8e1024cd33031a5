use Rattle.std.proofs.Common.{◌≡◌, Result, Some, slice_get, subst, take}
use Rattle.std.specs.Prelude.{IfErr, OnErr}
use Rattle.cs_hub.specs.Follows.{IsFollowFault}
use Rattle.cs_hub.specs.declared.follow_fault.FollowFault.{FollowFault}
use Rattle.cs_nodes.specs.books.Books.{BookState}
use Rattle.cs_hub.specs.declared.follow_fault.FollowFault.TheVariants.{Device}
use Rattle.cs_nodes.proofs.BooksLemmas.Goes.{book_again, ends_follow, goes_on, has_taken, shown_of, stuck}
use Rattle.cs_nodes.proofs.books.book.Book.take_next.Goals as goal

pub invariant_of-self : goal.invariant_of-self
invariant_of-self g c =
    let here : slice_get c.self.inside.pass.known c.self.inside.hub.newest ≡ Some c.entry-entry.result.now = rw c.newest.ensures at c.entry-entry.ensures in
    let book : BookState g.row.S.Denot = record { row = c.self.inside.spine.now; hub = c.self.inside.hub; pass = c.self.inside.pass } in
    book_again g.S.RowStore book c.self.invariant c.entry-entry.result.now here c.follow.new.self c.follow.ensures.catalog
    Device c.follow.result c.follow.ensures.writes c.follow.ensures.counted c.follow.ensures.kept c.follow.ensures.widens
    (shown_of g.S.RowStore book c.self.invariant c.entry-entry.result.now here c.follow.new.self c.follow.ensures.catalog
    c.follow.result c.follow.ensures.followed)

pub returns-clause-later : goal.returns-clause-later
returns-clause-later g c =
    let here : slice_get c.self.inside.pass.known c.self.inside.hub.newest ≡ Some c.entry-entry.result.now = rw c.newest.ensures at c.entry-entry.ensures in
    let book : BookState g.row.S.Denot = record { row = c.self.inside.spine.now; hub = c.self.inside.hub; pass = c.self.inside.pass } in
    rw (← c.self.view_is)
    (goes_on g.S.RowStore book c.self.invariant c.entry-entry.result.now here c.follow.new.self c.follow.ensures.catalog
    Device c.follow.result _ c.follow.ensures.writes c.follow.ensures.counted c.follow.ensures.kept
    (ends_follow g.S.RowStore book c.self.invariant c.entry-entry.result.now here c.follow.new.self c.follow.ensures.catalog
    c.follow.result c.follow.ensures.refused c.follow.ensures.writes.was_honest))

pub returns-clause-front : goal.returns-clause-front
returns-clause-front g c =
    let here : slice_get c.self.inside.pass.known c.self.inside.hub.newest ≡ Some c.entry-entry.result.now = rw c.newest.ensures at c.entry-entry.ensures in
    let book : BookState g.row.S.Denot = record { row = c.self.inside.spine.now; hub = c.self.inside.hub; pass = c.self.inside.pass } in
    has_taken g.S.RowStore (record { row = c.self.inside.spine.now; hub = c.follow.new.self; pass = c.self.inside.pass })
    (book_again g.S.RowStore book c.self.invariant c.entry-entry.result.now here c.follow.new.self c.follow.ensures.catalog
    Device c.follow.result c.follow.ensures.writes c.follow.ensures.counted c.follow.ensures.kept c.follow.ensures.widens
    (shown_of g.S.RowStore book c.self.invariant c.entry-entry.result.now here c.follow.new.self c.follow.ensures.catalog
    c.follow.result c.follow.ensures.followed))

pub returns-clause-stuck : goal.returns-clause-stuck
returns-clause-stuck g c = λ undefined h.
    let here : slice_get c.self.inside.pass.known c.self.inside.hub.newest ≡ Some c.entry-entry.result.now = rw c.newest.ensures at c.entry-entry.ensures in
    let book : BookState g.row.S.Denot = record { row = c.self.inside.spine.now; hub = c.self.inside.hub; pass = c.self.inside.pass } in
    let was = c.follow.ensures.writes.was_honest h in
    let front = take c.self.inside.hub.newest c.self.inside.pass.known in
    stuck g.S.RowStore book c.self.invariant c.entry-entry.result.now here c.follow.new.self c.follow.ensures.catalog
    (subst (λ (r : Result (Unit {0}) FollowFault). OnErr r (c.follow.new.self.newest ≡ c.self.inside.hub.newest)) undefined c.follow.ensures.kept) was
    (subst (λ (r : Result (Unit {0}) FollowFault). IfErr r (IsFollowFault c.self.inside.hub.catalog front c.entry-entry.result.now)) undefined
    (c.follow.ensures.refused h front (c.self.invariant.shows was)))
