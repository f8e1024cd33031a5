use Rattle.cs_node_lines.specs.working.LineStep.{LineStep}
use Rattle.cs_node_lines.proofs.WorkingLemmas.Going.{going_ends, going_first, going_last, going_on}
use Rattle.cs_node_lines.proofs.working.node.do_asks.Goals as goal

pub loop-ask-init : goal.loop-ask-init
loop-ask-init g c =
    (going_first g.S.RowStore LineStep c.args.asks.now (g.W.Write.contents c.args.writer.now) c.args.replica.now, λ sent. sent)

pub loop-ask-preserved : goal.loop-ask-preserved
loop-ask-preserved g c = (
  going_on g.S.RowStore LineStep c.args.asks.now c.loop-ask.rest.now c.in-Some.more.now c.in-Some.ask.now
      (g.W.LineOutput.failed c.do_ask.new.writer) (g.W.Write.contents c.args.writer.now) (g.W.Write.contents c.loop-ask.writer) (g.W.Write.contents c.do_ask.new.writer)
      c.args.replica.now c.loop-ask.replica c.do_ask.new.replica c.in-Some.ensures.cases.0 c.in_order.ensures c.loop-ask.invariant.0 c.in-Ok.ensures.told,
  λ sent. c.in-Ok.ensures.sent,
)

pub returns-in-Err-clause-told : goal.returns-in-Err-clause-told
returns-in-Err-clause-told g c =
    going_ends g.S.RowStore LineStep c.args.asks.now c.loop-ask.rest.now c.in-Some.more.now c.in-Some.ask.now c.in-Err.fault
    (g.W.LineOutput.failed c.do_ask.new.writer) (g.W.Write.contents c.args.writer.now) (g.W.Write.contents c.loop-ask.writer) (g.W.Write.contents c.do_ask.new.writer)
    c.args.replica.now c.loop-ask.replica c.do_ask.new.replica c.in-Some.ensures.cases.0 c.in_order.ensures c.loop-ask.invariant.0 c.in-Err.ensures.told

pub returns-clause-told : goal.returns-clause-told
returns-clause-told g c =
    going_last g.S.RowStore LineStep c.args.asks.now c.loop-ask.rest.now (g.W.LineOutput.failed c.loop-ask.writer)
    (g.W.Write.contents c.args.writer.now) (g.W.Write.contents c.loop-ask.writer) c.args.replica.now c.loop-ask.replica c.in_default.ensures.cases c.loop-ask.invariant.0
