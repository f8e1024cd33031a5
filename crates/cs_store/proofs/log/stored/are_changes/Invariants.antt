use Rattle.std.proofs.Common.{length}
use Rattle.cs_store.proofs.LogLemmas.Seen.{AreTablesSoFar}
use Rattle.cs_store.proofs.log.stored.are_changes.Given as goal

abbrev pub decreases-loop-tables : goal.decreases-loop-tables
decreases-loop-tables l = length l.left

abbrev pub invariant-loop-tables : goal.invariant-loop-tables
invariant-loop-tables l = AreTablesSoFar l.catalog l.tables l.bytes l.left
