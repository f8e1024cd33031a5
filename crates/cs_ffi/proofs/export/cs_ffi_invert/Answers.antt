use Rattle.cs_ffi.proofs.OneAnswer.{inverse_told}
use Rattle.cs_ffi.proofs.export.cs_ffi_invert.Goals as goal

pub returns-clause-refused : goal.returns-clause-refused
returns-clause-refused c = λ owed is. inverse_told c.answers.ensures c.args.input.now c.args.output.now _ _ owed c.write_inverse.ensures.answers is
