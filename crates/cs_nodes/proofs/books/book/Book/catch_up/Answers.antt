use Rattle.cs_nodes.proofs.BooksLemmas.Goes.{one_more}
use Rattle.cs_nodes.proofs.books.book.Book.catch_up.Goals as goal

pub entries-preserved : goal.entries-preserved
entries-preserved g c = record {
  later = one_more g.S.RowStore (Unit {0}) c.args.self.now c.entries.self c.finds_more.new.self c.take_next.new.self
      c.entries.invariant.later c.finds_more.ensures.row c.finds_more.ensures.hub c.finds_more.ensures.begins c.in-Ok.ensures.later;
}
