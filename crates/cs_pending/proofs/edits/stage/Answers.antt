use Rattle.std.proofs.Common.{◌∙◌, ℕ, List, ap, inr, subst, sym}
use Rattle.cs_pending.specs.Edits.{IsWantedAt, edit, edit_at}
use Rattle.cs_pending.specs.Seeking.{asked_of}
use Rattle.cs_pending.specs.Storing.{not_read}
use Rattle.cs_pending.proofs.Named.{found_there, in_table, is_named, no_table, not_named, refused_apart, refused_there, staged_as, told_as}
use Rattle.cs_pending.proofs.edits.stage.Goals as goal

pub returns-in_default-clause-refused : goal.returns-in_default-clause-refused
returns-in_default-clause-refused g c = λ honest begun view settles.
    inr (no_table c.args.catalog.now c.args.name.now (asked_of c.args.row_edit.now) (not_named c.args.name.now c.args.catalog.now c.in_default.ensures.found) view)

pub returns-in-Err-clause-reads : goal.returns-in-Err-clause-reads
returns-in-Err-clause-reads g c =
    not_read g.S.RowStore _ c.in-Err.fault _ c.args.store.now (refused_apart c.index-tables-at.result (asked_of c.args.row_edit.now) c.in-Err.fault c.in-Err.ensures.refused)

pub returns-in-Err-clause-refused : goal.returns-in-Err-clause-refused
returns-in-Err-clause-refused g c = λ honest begun view settles.
    let found = found_there c.args.catalog.now c.tables.result.now c.args.name.now c.in-Some.at c.index-tables-at.result c.tables.ensures.same c.in-Some.ensures.found.0 c.index-tables-at.is c.in-Some.ensures.found.1 in
    let here = is_named c.catalogs.ensures.place c.args.catalog.now c.tables.ensures.tables c.args.name.now c.index-tables-at.result found.1 found.2 in
    refused_there c.args.catalog.now c.args.name.now (asked_of c.args.row_edit.now) c.index-tables-at.result here view c.in-Err.fault c.in-Err.ensures.refused

pub stage_at-requires-clause-there : goal.stage_at-requires-clause-there
stage_at-requires-clause-there g c =
    (found_there c.args.catalog.now c.tables.result.now c.args.name.now c.in-Some.at c.index-tables-at.result c.tables.ensures.same c.in-Some.ensures.found.0 c.index-tables-at.is c.in-Some.ensures.found.1).0

pub stage_at-requires-clause-wanted : goal.stage_at-requires-clause-wanted
stage_at-requires-clause-wanted g c =
    subst (λ (key : List ℕ). IsWantedAt c.index-tables-at.result key c.in-Ok.sought.1) (sym c.as_slice.ensures.value) c.in-Ok.ensures.sought.wanted

pub returns-clause-staged : goal.returns-clause-staged
returns-clause-staged g c = λ honest begun view settles.
    let found = found_there c.args.catalog.now c.tables.result.now c.args.name.now c.in-Some.at c.index-tables-at.result c.tables.ensures.same c.in-Some.ensures.found.0 c.index-tables-at.is c.in-Some.ensures.found.1 in
    let here = is_named c.catalogs.ensures.place c.args.catalog.now c.tables.ensures.tables c.args.name.now c.index-tables-at.result found.1 found.2 in
    staged_as c.args.catalog.now (g.S.RowStore.contents c.args.store.now) begun (edit_at c.index-tables-at.result c.as_slice.result.now c.in-Ok.sought.1)
    (edit c.args.catalog.now c.args.name.now (asked_of c.args.row_edit.now)) view c.stage_at.new.settling c.stage_at.result
    (in_table c.args.catalog.now c.args.name.now (asked_of c.args.row_edit.now) c.index-tables-at.result here view ∙ c.in-Ok.ensures.sought.leads view
    ∙ ap (λ (key : List ℕ). edit_at c.index-tables-at.result key c.in-Ok.sought.1 view) (sym c.as_slice.ensures.value))
    (c.stage_at.ensures.staged honest begun view settles)

pub returns-clause-refused : goal.returns-clause-refused
returns-clause-refused g c = λ honest begun view settles.
    let found = found_there c.args.catalog.now c.tables.result.now c.args.name.now c.in-Some.at c.index-tables-at.result c.tables.ensures.same c.in-Some.ensures.found.0 c.index-tables-at.is c.in-Some.ensures.found.1 in
    let here = is_named c.catalogs.ensures.place c.args.catalog.now c.tables.ensures.tables c.args.name.now c.index-tables-at.result found.1 found.2 in
    told_as _ _ c.stage_at.result
    (in_table c.args.catalog.now c.args.name.now (asked_of c.args.row_edit.now) c.index-tables-at.result here view ∙ c.in-Ok.ensures.sought.leads view
    ∙ ap (λ (key : List ℕ). edit_at c.index-tables-at.result key c.in-Ok.sought.1 view) (sym c.as_slice.ensures.value))
    (c.stage_at.ensures.refused honest begun view settles)
