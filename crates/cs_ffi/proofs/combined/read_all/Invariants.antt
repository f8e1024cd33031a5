use Rattle.std.proofs.Common.{length}
use Rattle.cs_ffi.proofs.Parts.{AreRead}
use Rattle.cs_ffi.proofs.combined.read_all.Given as goal

abbrev pub invariant-loop-length : goal.invariant-loop-length
invariant-loop-length l = AreRead l.fn.lengths l.inputs l.lengths l.rest l.changesets.items

abbrev pub decreases-loop-length : goal.decreases-loop-length
decreases-loop-length l = length l.lengths
