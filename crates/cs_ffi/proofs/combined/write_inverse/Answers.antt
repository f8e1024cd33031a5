use Rattle.cs_ffi.proofs.combined.write_inverse.Goals as goal

pub returns-in-Ok-clause-told : goal.returns-in-Ok-clause-told
returns-in-Ok-clause-told c = λ fault offset is. absurd (c.in-Ok.ensures.told fault offset is)
