use Rattle.cs_nodes.proofs.BooksLemmas.Told.{if_ok, sent}
use Rattle.cs_nodes.proofs.books.book.Book.send.Goals as goal

pub returns-in-Mine-clause-served : goal.returns-in-Mine-clause-served
returns-in-Mine-clause-served g c =
    let learned = c.in_ok-offer.ensures.learned in
    if_ok c.settle.result _ _
    (λ answer settled h.
    sent g.S.RowStore.failed c.served_again.ensures c.args.self.now c.offer.new.self c.settle.new.self c.args.entry.now learned.0 c.args.request.now c.args.reply.items answer.items
    c.offer.ensures.row c.offer.ensures.hub learned.1 (learned.2.0 c.in-Mine.is) c.settle.ensures.later.row c.settle.ensures.pass c.settle.ensures.later.catalog c.requires.level (c.settle.ensures.front h)
    (c.requires.judged (let was = c.settle.ensures.later.was_honest h in rw (← c.offer.ensures.hub) was)) (settled h))
    c.settle.ensures.settled
