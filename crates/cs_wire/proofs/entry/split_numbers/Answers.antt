use Rattle.std.proofs.Common.{arith}
use Rattle.cs_wire.specs.OneSpelling.{after_four, after_eight}
use Rattle.cs_wire.proofs.entry.split_numbers.Goals as goal

pub returns-in_err-number : goal.returns-in_err-number
returns-in_err-number c =
    rw c.from_residual-in_err-number.ensures (omega (arith, c.in_err-number.ensures, after_four _ _ _ c.in_ok-origin.ensures))

pub returns-in_err-size : goal.returns-in_err-size
returns-in_err-size c =
    rw c.from_residual-in_err-size.ensures (omega (arith, c.in_err-size.ensures, after_four _ _ _ c.in_ok-origin.ensures, after_eight _ _ _ c.in_ok-number.ensures))
