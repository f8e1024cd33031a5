use Rattle.std.proofs.Common.{◌≡◌, ◌+◌, drop}
use Rattle.std.specs.Prelude.{sum}
use Rattle.cs_ffi.proofs.combined.add_up.Given as goal

abbrev pub invariant-loop-length : goal.invariant-loop-length
invariant-loop-length l = l.total + sum (drop l.length-index l.lengths) ≡ l.left + sum l.lengths
