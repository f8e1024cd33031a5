use Rattle.std.proofs.Common.{length}
use Rattle.cs_store.proofs.LogLemmas.Seen.{AreSoFar}
use Rattle.cs_store.proofs.log.stored.behind_changes.Given as goal

abbrev pub decreases-loop-room : goal.decreases-loop-room
decreases-loop-room l = length l.left

abbrev pub invariant-loop-room : goal.invariant-loop-room
invariant-loop-room l = AreSoFar l.marks l.bytes l.last.items l.left
