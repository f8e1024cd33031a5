use Rattle.std.proofs.Common.{arith}
use Rattle.cs_wire.specs.OneSpelling.{after_eight}
use Rattle.cs_wire.proofs.answer.split_entries.Goals as goal

pub returns-in_err-count : goal.returns-in_err-count
returns-in_err-count c =
    rw c.from_residual-in_err-count.ensures (omega (arith, c.in_err-count.ensures, after_eight _ _ _ c.in_ok-first.ensures))
