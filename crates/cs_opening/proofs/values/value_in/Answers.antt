use Rattle.std.proofs.Common.{Some, ap}
use Rattle.cs_opening.proofs.Decoded.{not_refused, read_is}
use Rattle.cs_opening.proofs.values.value_in.Goals as goal

pub returns-in-Ok-clause-only : goal.returns-in-Ok-clause-only
returns-in-Ok-clause-only c = λ changes value.
    ap Some (read_is c.in-Ok.changes changes (c.in-Ok.ensures.only changes (value.normal, value.fits) value.spelled))

pub returns-in-Err-NoBody-clause-only : goal.returns-in-Err-NoBody-clause-only
returns-in-Err-NoBody-clause-only c = λ changes value.
    absurd (not_refused changes (rw c.in-Err-NoBody.field-0-is at (c.in-Err-NoBody.ensures.only changes (value.normal, value.fits) value.spelled)))
