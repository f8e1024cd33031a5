use Rattle.cs_pending.specs.Storing.{no_call, then_not_written, then_written}
use Rattle.cs_pending.specs.declared.fault.EditsFault.TheVariants.{Device}
use Rattle.cs_replica.proofs.Edited.{edits_keep, is_stepped}
use Rattle.cs_replica.proofs.editing.edit_all_at.Goals as goal

pub returns-in-Ok-clause-writes : goal.returns-in-Ok-clause-writes
returns-in-Ok-clause-writes g c =
    then_written g.S.RowStore _ _ (Unit {0}) _ _ c.args.store.now c.args.store.now c.edit_rows.new.store (λ some. tt) (λ honest some. (some.0, some.1.rows))
    (λ honest contents is. is_stepped c.args.catalog.now _ (edits_keep c.edit_keeps_before.ensures c.args.catalog.now c.tables-tables.ensures.tables c.args.edits.now) c.args.position.now (g.S.RowStore.contents c.args.store.now) contents is)
    (no_call g.S.RowStore (Unit {0}) c.args.store.now)
    Device Device c.in-Ok.count tt c.in-Ok.ensures.writes

pub returns-in-Err-clause-writes : goal.returns-in-Err-clause-writes
returns-in-Err-clause-writes g c =
    then_not_written g.S.RowStore _ _ (Unit {0}) _ _ c.args.store.now c.args.store.now c.edit_rows.new.store (λ some. tt) (λ honest some. (some.0, some.1.rows))
    (λ honest contents is. is_stepped c.args.catalog.now _ (edits_keep c.edit_keeps_before.ensures c.args.catalog.now c.tables-tables.ensures.tables c.args.edits.now) c.args.position.now (g.S.RowStore.contents c.args.store.now) contents is)
    (no_call g.S.RowStore (Unit {0}) c.args.store.now)
    Device c.in-Err.fault Device c.in-Err.fault (λ is. is) c.in-Err.ensures.writes
