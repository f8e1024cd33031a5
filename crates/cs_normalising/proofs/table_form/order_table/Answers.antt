use Rattle.std.proofs.lemmas.Result.{err_from_is_err_and}
use Rattle.cs_normalising.proofs.TableForms.{table_is}
use Rattle.cs_normalising.proofs.table_form.order_table.Goals as goal

pub returns-clause-normal : goal.returns-clause-normal
returns-clause-normal c =
    table_is c.args.groups.now c.args.table.now c.in_ok-changes.changes _ c.in_ok-changes.ensures (rw (c.as_slice.ensures, c.as_slice-2.ensures) at c.in_ok-keys.ensures.kept)

pub returns-clause-ordered : goal.returns-clause-ordered
returns-clause-ordered c = rw (c.as_slice.ensures, c.as_slice-2.ensures) at c.in_ok-keys.ensures.beside

pub returns-in_err-keys-clause-fault : goal.returns-in_err-keys-clause-fault
returns-in_err-keys-clause-fault c =
    let given = err_from_is_err_and c.from_residual-in_err-keys.result c.from_residual-in_err-keys.ensures.1 in
    rw (given.1, given.2) (rw (c.as_slice.ensures, c.as_slice-2.ensures, c.in_ok-changes.ensures) at c.in_err-keys.ensures.fault)
