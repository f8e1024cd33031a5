use Rattle.cs_lines.specs.Lines.{ended}
use Rattle.cs_node_lines.proofs.FollowingLemmas.Gathering.{IsGathering}
use Rattle.cs_node_lines.proofs.following.several.gather_lines.Given as goal

abbrev pub invariant-loop-taken : goal.invariant-loop-taken
invariant-loop-taken g l = IsGathering l.catalog l._taken l.gathered (ended (g.R.Read.remaining l.initial.reader)) (ended (g.R.Read.remaining l.reader))
