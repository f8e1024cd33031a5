use Rattle.cs_ffi.proofs.OneRebased.{count_owed, rebased_told}
use Rattle.cs_ffi.proofs.export.cs_ffi_rebase.Goals as goal

pub returns-clause-only : goal.returns-clause-only
returns-clause-only c = λ made spells. count_owed c.answers.ensures c.args.local.now c.args.blob.now c.args.output.now _ made _ c.write_rebased.ensures.answers spells

pub returns-clause-refused : goal.returns-clause-refused
returns-clause-refused c = λ owed is. rebased_told c.answers.ensures c.args.local.now c.args.blob.now c.args.output.now _ _ owed c.write_rebased.ensures.answers is
