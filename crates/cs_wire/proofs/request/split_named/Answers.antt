use Rattle.std.proofs.Common.{arith}
use Rattle.cs_wire.specs.OneSpelling.{after_four, after_eight}
use Rattle.cs_wire.proofs.request.split_named.Goals as goal

pub returns-in_err-base : goal.returns-in_err-base
returns-in_err-base c =
    rw c.from_residual-in_err-base.ensures (omega (arith, c.in_err-base.ensures, after_eight _ _ _ c.in_ok-number.ensures))

pub returns-in_err-width : goal.returns-in_err-width
returns-in_err-width c =
    rw c.from_residual-in_err-width.ensures (omega (arith, c.in_err-width.ensures, after_eight _ _ _ c.in_ok-number.ensures, after_eight _ _ _ c.in_ok-base.ensures))

pub returns-in_err-size : goal.returns-in_err-size
returns-in_err-size c =
    rw c.from_residual-in_err-size.ensures (omega (arith, c.in_err-size.ensures, after_eight _ _ _ c.in_ok-number.ensures, after_eight _ _ _ c.in_ok-base.ensures, after_four _ _ _ c.in_ok-width.ensures))
