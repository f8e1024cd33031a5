use Rattle.cs_nodes.proofs.BooksLemmas.Goes.{looks, then_later}
use Rattle.cs_nodes.proofs.books.book.Book.serve.Goals as goal

pub returns-in-Append-clause-later : goal.returns-in-Append-clause-later
returns-in-Append-clause-later g c =
    then_later g.S.RowStore _ c.args.self.now c.judge.new.self c.send.new.self
    (then_later g.S.RowStore (Unit {0}) c.args.self.now c.catch_up.new.self c.judge.new.self c.in-Ok.ensures.later
    (looks g.S.RowStore (Unit {0}) c.catch_up.new.self c.judge.new.self c.judge.ensures.row c.judge.ensures.pass c.judge.ensures.reads c.judge.ensures.same_reads))
    c.send.ensures.later
