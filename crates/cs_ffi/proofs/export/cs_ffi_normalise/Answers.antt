use Rattle.cs_ffi.proofs.OneAnswer.{normal_told}
use Rattle.cs_ffi.proofs.export.cs_ffi_normalise.Goals as goal

pub returns-clause-refused : goal.returns-clause-refused
returns-clause-refused c = λ owed is. normal_told c.answers.ensures c.args.declared.now c.args.input.now c.args.output.now _ _ owed c.write_normal.ensures.answers is
