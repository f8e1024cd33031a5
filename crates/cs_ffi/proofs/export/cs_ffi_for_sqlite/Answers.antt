use Rattle.cs_ffi.proofs.OneSqlite.{sqlite_told}
use Rattle.cs_ffi.proofs.export.cs_ffi_for_sqlite.Goals as goal

pub returns-clause-refused : goal.returns-clause-refused
returns-clause-refused c = λ owed is. sqlite_told c.answers.ensures c.args.declared.now c.args.input.now c.args.output.now _ _ owed c.write_for_sqlite.ensures.answers is
