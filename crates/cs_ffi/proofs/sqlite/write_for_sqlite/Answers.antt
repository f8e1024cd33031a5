use Rattle.std.proofs.Common.{inr, refl}
use Rattle.cs_ffi.proofs.OneSqlite.{no_sqlite_refusal}
use Rattle.cs_ffi.proofs.sqlite.write_for_sqlite.Goals as goal

pub returns-in-Err-clause-answers : goal.returns-in-Err-clause-answers
returns-in-Err-clause-answers c = inr (c.in-Err.ensures, refl)

pub returns-in-Err-clause-fit : goal.returns-in-Err-clause-fit
returns-in-Err-clause-fit c = λ can. inr (no_sqlite_refusal c.changesets.ensures c.no_fault_where_fit.ensures c.one_order_or_two.ensures c.args.declared.now c.args.input.now _ can c.in-Err.ensures)
