use Rattle.cs_lines.specs.Lines.{ended}
use Rattle.cs_node_lines.proofs.FollowingLemmas.Followed.{IsFollowing}
use Rattle.cs_node_lines.proofs.following.follow.follow.Given as goal

abbrev pub invariant-loop-asked : goal.invariant-loop-asked
invariant-loop-asked g l =
    IsFollowing g.S.RowStore l.catalog l._asked (ended (g.R.Read.remaining l.initial.reader)) (ended (g.R.Read.remaining l.reader)) (g.W.Write.contents l.initial.writer) (g.W.Write.contents l.writer) l.initial.replica l.replica
    × (g.W.LineOutput.sent l.initial.writer → g.W.LineOutput.sent l.writer)
