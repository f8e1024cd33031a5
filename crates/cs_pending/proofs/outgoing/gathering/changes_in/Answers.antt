use Rattle.std.proofs.Common.{Some, ap}
use Rattle.cs_pending.proofs.OutgoingLemmas.Answered.{not_refused, read_is}
use Rattle.cs_pending.proofs.outgoing.gathering.changes_in.Goals as goal

pub returns-in-Ok : goal.returns-in-Ok
returns-in-Ok c = λ changes normal fits is. ap Some (read_is c.in-Ok.changes changes (c.in-Ok.ensures.only changes (normal, fits) is))

pub returns-in-Err-NoBody : goal.returns-in-Err-NoBody
returns-in-Err-NoBody c = λ changes normal fits is.
    absurd (not_refused changes (rw c.in-Err-NoBody.field-0-is at (c.in-Err-NoBody.ensures.only changes (normal, fits) is)))
