use Rattle.std.proofs.Common.{length}
use Rattle.cs_node_lines.specs.working.LineStep.{LineStep}
use Rattle.cs_node_lines.proofs.WorkingLemmas.Going.{IsGoing}
use Rattle.cs_node_lines.proofs.working.node.do_asks.Given as goal

abbrev pub invariant-loop-ask : goal.invariant-loop-ask
invariant-loop-ask g l =
    IsGoing g.S.RowStore LineStep l.asks l.rest (g.W.Write.contents l.initial.writer) (g.W.Write.contents l.writer) l.initial.replica l.replica
    × (g.W.LineOutput.sent l.initial.writer → g.W.LineOutput.sent l.writer)

abbrev pub decreases-loop-ask : goal.decreases-loop-ask
decreases-loop-ask g l = length l.rest
