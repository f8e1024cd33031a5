use Rattle.cs_node_lines.proofs.WorkingLemmas.Going.{Opened, ends_working}
use Rattle.cs_node_lines.proofs.working.node.work_on.Goals as goal

pub returns-in-Ok-clause-ends : goal.returns-in-Ok-clause-ends
returns-in-Ok-clause-ends g c =
    let opened : Opened g.S.RowStore c.args.id c.args.catalog.now c.args.store c.in-Ok.replica = record {
      was_honest = c.in-Ok.ensures.opens.was_honest;
      count = c.in-Ok.ensures.opens.kept;
      opened = c.in-Ok.ensures.opened;
      shown = c.shown.ensures.shown;
      are = c.in_order.ensures;
      fits = c.shown.ensures.fits;
    } in
    ends_working g.S.RowStore c.args.id c.args.catalog.now c.args.store c.close.result c.args.asks.now c.do_asks-ended.result
    (g.W.LineOutput.failed c.do_asks-ended.new.writer) (g.W.Write.contents c.args.writer.now) (g.W.Write.contents c.do_asks-ended.new.writer)
    c.in-Ok.replica c.do_asks-ended.new.replica c.close.ensures opened c.do_asks-ended.ensures.told
