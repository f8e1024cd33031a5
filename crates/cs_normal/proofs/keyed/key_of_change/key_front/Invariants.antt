use Rattle.std.proofs.Common.{length}
use Rattle.cs_normal.specs.keyed.NormalForm.{HaveSameKeys}
use Rattle.cs_normal.proofs.keyed.key_of_change.key_front.Given as goal

abbrev pub invariant-loop-last : goal.invariant-loop-last
invariant-loop-last l = HaveSameKeys l.front l.fn.marks

abbrev pub decreases-loop-last : goal.decreases-loop-last
decreases-loop-last l = length l.front
