use Rattle.std.proofs.Common.{inr, refl}
use Rattle.cs_ffi.proofs.OneAnswer.{no_normal_refusal}
use Rattle.cs_ffi.proofs.normal.write_normal.Goals as goal

pub returns-in-Err-clause-answers : goal.returns-in-Err-clause-answers
returns-in-Err-clause-answers c = inr (c.in-Err.ensures, refl)

pub returns-in-Err-clause-fit : goal.returns-in-Err-clause-fit
returns-in-Err-clause-fit c = λ fits. inr (no_normal_refusal c.changesets.ensures c.no_fault_where_fit.ensures c.args.declared.now c.args.input.now _ fits c.in-Err.ensures)
