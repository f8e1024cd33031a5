use Rattle.cs_ffi.proofs.Counts.{tells-answer}
use Rattle.cs_ffi.proofs.reading.reencode.Goals as goal
use Rattle.cs_ffi.proofs.reading.reencode.Goals.{in-Ok, in-Err}

pub returns-clause-told : goal.returns-clause-told
returns-clause-told c = λ fault offset is.
    elim c.match-read.branch [
      | in-Ok w ↦ absurd (w.in-Ok.ensures.told fault offset is)
      | in-Err w ↦ rw (w.result-is, w.refused.ensures) (tells-answer _ fault offset (w.in-Err.ensures.told fault offset is))
    ]
