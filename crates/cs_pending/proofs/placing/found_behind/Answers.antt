use Rattle.std.proofs.Common.{◌∙◌, ap, subst, sym}
use Rattle.cs_change.specs.Action.{action_any}
use Rattle.cs_store.specs.Contents.{Contents, stored_pending}
use Rattle.cs_store.specs.Laws.{row_after}
use Rattle.cs_pending.specs.Placing.{StoresSomeChange}
use Rattle.cs_pending.specs.View.{undo}
use Rattle.cs_pending.specs.OnePlace.{contained}
use Rattle.cs_pending.proofs.Reading.{some_change, some_row, stored_row}
use Rattle.cs_pending.specs.Storing.{no_call, reads_well, then_reads_failed, then_well, went_well}
use Rattle.cs_pending.proofs.placing.found_behind.Goals as goal

pub returns-in-Err-clause-reads : goal.returns-in-Err-clause-reads
returns-in-Err-clause-reads g c =
    let place = c.args.place.now in
    then_reads_failed g.S.RowStore _ _ (Unit {0}) _ _ c.args.store.now c.args.store.now c.own_at.new.store
    (λ some. tt) (λ honest some. some_row c.catalogs.ensures.place c.args.catalog.now c.tables-tables.ensures.tables place.number place.table.now place.key.now c.requires _ c.args.settling.now some)
    (no_call g.S.RowStore _ _)
    c.in-Err.ensures.reads

pub returns-in-Err-undone_at-clause-reads : goal.returns-in-Err-undone_at-clause-reads
returns-in-Err-undone_at-clause-reads g c =
    let place = c.args.place.now in
    let changed = c.args.settling.now.pending in
    then_reads_failed g.S.RowStore _ _ _ _ _ c.args.store.now c.own_at.new.store c.undone_at.new.store
    (λ some. some_row c.catalogs.ensures.place c.args.catalog.now c.tables-tables.ensures.tables place.number place.table.now place.key.now c.requires _ c.args.settling.now some)
    (λ honest some. subst (λ (left : Contents). StoresSomeChange place.table.now.key_marks (row_after changed place.number place.key.now (stored_pending left place.number place.key.now))) (sym (c.in-Ok.ensures.reads.same honest))
    (some_change c.args.catalog.now place.number place.table.now place.key.now _ c.args.settling.now c.requires some))
    (went_well g.S.RowStore _ _ _ _ _ c.in-Ok.ensures.reads)
    c.in-Err-undone_at.ensures.reads

pub returns-clause-reads : goal.returns-clause-reads
returns-clause-reads g c =
    let place = c.args.place.now in
    let changed = c.args.settling.now.pending in
    reads_well g.S.RowStore _ _ _ _ _
    (then_well g.S.RowStore _ _ _ c.args.store.now c.own_at.new.store c.undone_at.new.store
    (λ some. some_row c.catalogs.ensures.place c.args.catalog.now c.tables-tables.ensures.tables place.number place.table.now place.key.now c.requires _ c.args.settling.now some)
    (λ honest some. subst (λ (left : Contents). StoresSomeChange place.table.now.key_marks (row_after changed place.number place.key.now (stored_pending left place.number place.key.now))) (sym (c.in-Ok.ensures.reads.same honest))
    (some_change c.args.catalog.now place.number place.table.now place.key.now _ c.args.settling.now c.requires some))
    (went_well g.S.RowStore _ _ _ _ _ c.in-Ok.ensures.reads)
    (went_well g.S.RowStore _ _ _ _ _ c.in-Ok-undone_at.ensures.reads))

pub returns-clause-found : goal.returns-clause-found
returns-clause-found g c = λ honest begun view settles.
    let place = c.args.place.now in
    let changed = c.args.settling.now.pending in
    let middle_honest = c.in-Ok-undone_at.ensures.reads.was_honest honest in
    let name = place.table.now.name in
    let stands = stored_row c.catalogs.ensures.place c.args.catalog.now c.tables-tables.ensures.tables place.number place.table.now place.key.now c.requires
    _ (view.tables name place.key.now) (settles.sound.after_state name place.key.now) (settles.rows_are place.number place.table.now place.key.now c.requires) in
    let mine = c.in-Ok.ensures.found middle_honest (view.tables name place.key.now) stands in
    let change = view.pending name place.key.now in
    let stored = ap (λ (left : Contents). row_after changed place.number place.key.now (stored_pending left place.number place.key.now)) (c.in-Ok.ensures.reads.same middle_honest)
    ∙ settles.pending_are place.number place.table.now place.key.now c.requires in
    let base = c.in-Ok-undone_at.ensures.found honest change stored (settles.fits place.table.now place.key.now (contained c.args.catalog.now place.number place.table.now c.requires)) in
    record { mine_is = mine; base_is = (rw (c.as_ref.ensures.value, c.lent-row.ensures) at base) ∙ ap (undo (action_any change)) mine }
