use Rattle.std.proofs.Common.{◌∙◌, Some, ap}
use Rattle.cs_pending.proofs.placing.spelled_row.Goals as goal

pub returns-clause-only : goal.returns-clause-only
returns-clause-only c = λ row fits is.
    ap Some (c.rows.ensures.spelled c.from_vec.result row c.from_vec.ensures.0 fits.1 (c.from_vec.ensures.1 ∙ is))
