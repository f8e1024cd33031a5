use Rattle.std.proofs.Common.{inr, refl}
use Rattle.cs_ffi.proofs.OneRebased.{fault_owed, none_made, none_owed}
use Rattle.cs_ffi.proofs.rebased.write_rebased.Goals as goal

pub returns-in-Ok-clause-told : goal.returns-in-Ok-clause-told
returns-in-Ok-clause-told c = λ fault offset is. absurd (none_made c.changesets.ensures c.args.local.now c.args.blob.now _ fault offset c.in-Ok.ensures is)

pub returns-in-Err-clause-answers : goal.returns-in-Err-clause-answers
returns-in-Err-clause-answers c = inr (c.in-Err.ensures, refl)

pub returns-in-Err-clause-told : goal.returns-in-Err-clause-told
returns-in-Err-clause-told c = λ fault offset is. fault_owed c.changesets.ensures c.args.local.now c.args.blob.now _ fault offset c.in-Err.ensures is

pub returns-in-Err-clause-fit : goal.returns-in-Err-clause-fit
returns-in-Err-clause-fit c = λ can. inr (none_owed c.changesets.ensures c.no_fault_where_fit.ensures c.blobs.ensures c.no_wrong_shape.ensures c.args.local.now c.args.blob.now _ can c.in-Err.ensures)
