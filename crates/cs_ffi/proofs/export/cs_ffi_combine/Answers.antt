use Rattle.cs_ffi.proofs.OneAnswer.{combined_told}
use Rattle.cs_ffi.proofs.export.cs_ffi_combine.Goals as goal

pub returns-clause-refused : goal.returns-clause-refused
returns-clause-refused c = λ owed is. combined_told c.answers.ensures c.args.lengths.now c.args.inputs.now c.args.output.now _ _ owed c.write_combined.ensures.answers is
