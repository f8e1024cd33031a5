use Rattle.std.proofs.Common.{◌≡◌, length}
use Rattle.cs_store.specs.Calls.{MoreFailures}
use Rattle.cs_nodes.specs.books.Books.{BookState}
use Rattle.cs_nodes.proofs.BooksLemmas.Goes.{shows_all}
use Rattle.cs_nodes.proofs.BooksLemmas.Told.{judged_here}
use Rattle.cs_nodes.proofs.books.book.Book.judge.Goals as goal

pub returns-clause-judged : goal.returns-clause-judged
returns-clause-judged g c =
    let book : BookState g.row.S.Denot = record { row = c.self.inside.spine.now; hub = c.self.inside.hub; pass = c.self.inside.pass } in
    let level : book.hub.newest ≡ length book.pass.known = rw (← c.self.view_is) at c.requires in
    let least = rw (← c.self.view_is) at c.limit-limit.ensures in
    rw (← c.self.view_is)
    (λ h.
    judged_here c.judge.result (MoreFailures (g.S.RowStore.failed book.hub.store) (g.S.RowStore.failed c.judge.new.self.store)) c.limit-limit.result book.row book.hub.catalog book.pass.known c.args.request.now least
    (c.judge.ensures.judged h book.pass.known
    (shows_all g.S.RowStore book c.self.invariant level (c.judge.ensures.reads.was_honest h))))
