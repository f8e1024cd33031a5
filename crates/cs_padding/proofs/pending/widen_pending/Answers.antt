use Rattle.std.proofs.Common.{◌≡◌, ◌≤◌, ◌<◌, ◌∙◌, List, length, ap, subst, sym, arith}
use Rattle.cs_store.specs.edits.Edits.{BodyEdit}
use Rattle.cs_value.specs.declared.catalog.TableDef.{TableDef}
use Rattle.cs_pending.specs.Storing.{misread_told}
use Rattle.cs_widening.specs.Widening.{widened_tables}
use Rattle.cs_padding.specs.Pending.{ArePendingEdits, PendsSome, widened_pending}
use Rattle.cs_padding.proofs.Pended.{all_changes, no_edits, no_table, padded_pending, wide_enough}
use Rattle.cs_padding.proofs.Widened.{stands}
use Rattle.cs_padding.proofs.pending.widen_pending.Goals as goal

pub returns-in_default-clause-widened : goal.returns-in_default-clause-widened
returns-in_default-clause-widened g c = λ honest pending pends.
    let contents = g.S.RowStore.contents c.args.store.now in
    let name = c.args.name.now in
    let tables = c.args.catalog.now in
    subst (λ (edits : List BodyEdit). ArePendingEdits (widened_tables name c.args.width tables) contents edits (widened_pending name c.args.width pending)) (sym c.new.ensures)
    (no_edits c.catalogs.ensures.place c.changesets.ensures.changes c.bytes_widen.ensures tables c.tables-tables.ensures.tables name c.args.width contents pending pends
    (no_table c.catalogs.ensures.place c.changesets.ensures.changes c.bytes_widen.ensures tables c.tables-tables.ensures.tables name c.args.width contents pending pends c.in_default.ensures.found))

pub returns-then-width-marks-clause-widened : goal.returns-then-width-marks-clause-widened
returns-then-width-marks-clause-widened g c = λ honest pending pends.
    let contents = g.S.RowStore.contents c.args.store.now in
    let name = c.args.name.now in
    let tables = c.args.catalog.now in
    let table = c.index-tables-number.result in
    let is = rw c.tables-tables.ensures.same at c.index-tables-number.is in
    let at = stands tables c.in-Some.number table c.in-Some.ensures.found.0 is in
    let named = ap (λ (t : TableDef). t.name) is ∙ c.in-Some.ensures.found.1 table in
    let columns : length c.as_slice-marks.result.now ≡ length table.key_marks =
    ap length c.as_slice-marks.ensures ∙ ap (λ (t : TableDef). length t.key_marks) (sym c.index-tables-number.is) in
    let enough : c.args.width ≤ length table.key_marks = omega (arith, columns, c.if-width-marks.true) in
    subst (λ (edits : List BodyEdit). ArePendingEdits (widened_tables name c.args.width tables) contents edits (widened_pending name c.args.width pending)) (sym c.new-then-width-marks.ensures)
    (no_edits c.catalogs.ensures.place c.changesets.ensures.changes c.bytes_widen.ensures tables c.tables-tables.ensures.tables name c.args.width contents pending pends
    (wide_enough c.catalogs.ensures.place c.changesets.ensures.changes c.bytes_widen.ensures tables c.tables-tables.ensures.tables name c.args.width contents pending pends c.in-Some.number table at named enough))

pub returns-in-Some-2-clause-widened : goal.returns-in-Some-2-clause-widened
returns-in-Some-2-clause-widened g c = λ honest pending pends.
    let contents = g.S.RowStore.contents c.args.store.now in
    let name = c.args.name.now in
    let tables = c.args.catalog.now in
    let table = c.index-tables-number.result in
    let is = rw c.tables-tables.ensures.same at c.index-tables-number.is in
    let at = stands tables c.in-Some.number table c.in-Some.ensures.found.0 is in
    let named = ap (λ (t : TableDef). t.name) is ∙ c.in-Some.ensures.found.1 table in
    let marks : c.as_slice-marks.result.now ≡ table.key_marks = c.as_slice-marks.ensures ∙ ap (λ (t : TableDef). t.key_marks) (sym c.index-tables-number.is) in
    let columns : length c.as_slice-marks.result.now ≡ length table.key_marks = ap length marks in
    let less : length table.key_marks < c.args.width = omega (arith, columns, c.if-width-marks.false) in
    let found = rw (marks, c.as_slice.ensures.value) at c.in_ok-edits.ensures.found in
    padded_pending c.catalogs.ensures.place c.changesets.ensures.changes c.bytes_widen.ensures tables c.tables-tables.ensures.tables name c.args.width contents pending pends
    c.in-Some.number table at named less c.in-Ok.listed.items (c.in-Ok.ensures.listed honest) c.in-Some-2.edits (rw c.in-Some-2.is at found)

pub returns-clause-reads : goal.returns-clause-reads
returns-clause-reads g c =
    let contents = g.S.RowStore.contents c.args.store.now in
    let table = c.index-tables-number.result in
    let is = rw c.tables-tables.ensures.same at c.index-tables-number.is in
    let at = stands c.args.catalog.now c.in-Some.number table c.in-Some.ensures.found.0 is in
    let marks : c.as_slice-marks.result.now ≡ table.key_marks = c.as_slice-marks.ensures ∙ ap (λ (t : TableDef). t.key_marks) (sym c.index-tables-number.is) in
    misread_told g.S.RowStore c.misread.result (PendsSome c.args.catalog.now contents) (Unit {0}) c.args.store.now c.list_changes.new.store c.misread.new.self c.in-Ok.listed
    (λ honest some.
    let only = rw (marks, c.as_slice.ensures.value) at c.in_ok-edits.ensures.only in
    let there = only (all_changes c.args.catalog.now contents some c.in-Some.number table at c.in-Ok.listed.items (c.in-Ok.ensures.listed honest)) in
    absurd (let no = rw c.in-None.is at there in cc))
    c.in-Ok.ensures.reads c.misread.ensures.counted
