use Rattle.std.proofs.Common.{arith}
use Rattle.cs_wire.specs.OneSpelling.{after_four, after_eight}
use Rattle.cs_wire.proofs.numbers.split_sized.Goals as goal

pub returns-in_err-second : goal.returns-in_err-second
returns-in_err-second c =
    rw c.from_residual-in_err-second.ensures (omega (arith, c.in_err-second.ensures, after_four _ _ _ c.in_ok-origin.ensures))

pub returns-in_err-third : goal.returns-in_err-third
returns-in_err-third c =
    rw c.from_residual-in_err-third.ensures (omega (arith, c.in_err-third.ensures, after_four _ _ _ c.in_ok-origin.ensures, after_eight _ _ _ c.in_ok-second.ensures))

pub returns-in_err-size : goal.returns-in_err-size
returns-in_err-size c =
    rw c.from_residual-in_err-size.ensures (omega (arith, c.in_err-size.ensures, after_four _ _ _ c.in_ok-origin.ensures, after_eight _ _ _ c.in_ok-second.ensures, after_eight _ _ _ c.in_ok-third.ensures))
