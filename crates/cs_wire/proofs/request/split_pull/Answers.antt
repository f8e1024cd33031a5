use Rattle.std.proofs.Common.{arith}
use Rattle.cs_wire.specs.OneSpelling.{after_eight}
use Rattle.cs_wire.proofs.request.split_pull.Goals as goal

pub returns-in_err-limit : goal.returns-in_err-limit
returns-in_err-limit c =
    rw c.from_residual-in_err-limit.ensures (omega (arith, c.in_err-limit.ensures, after_eight _ _ _ c.in_ok-first.ensures))
