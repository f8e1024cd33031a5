use Rattle.std.proofs.Common.{◌≡◌, ◌≤◌, ◌<◌, ◌∙◌, ◌-◌, ℕ, List, length, replicate, ap, subst, sym, arith}
use Rattle.cs_record.specs.Spelling.{null_type}
use Rattle.cs_store.specs.Contents.{IsListing, stored_tables}
use Rattle.cs_store.specs.States.{AreEdits}
use Rattle.cs_store.specs.Written.{pairs_of}
use Rattle.cs_store.specs.edits.Edits.{BodyEdit}
use Rattle.cs_value.specs.declared.catalog.TableDef.{TableDef}
use Rattle.cs_widening.specs.Widening.{widened, widened_tables}
use Rattle.cs_padding.specs.Steps.{padded_edits}
use Rattle.cs_padding.proofs.Widened.{no_edits, no_table, padded_are, stands, wide_enough}
use Rattle.cs_padding.proofs.rows.widen_rows.Goals as goal

pub returns-in_default-clause-widened : goal.returns-in_default-clause-widened
returns-in_default-clause-widened g c = λ honest before holds.
    let contents = g.S.RowStore.contents c.args.store.now in
    let name = c.args.name.now in
    let laws = c.catalogs.ensures.place in
    let bytes = c.bytes_widen.ensures in
    let tables = c.args.catalog.now in
    subst (λ (edits : List BodyEdit). AreEdits (widened_tables name c.args.width tables) contents edits (widened name c.args.width before)) (sym c.new.ensures)
    (no_edits laws bytes tables c.tables-tables.ensures.tables name c.args.width contents before holds
    (no_table laws bytes tables c.tables-tables.ensures.tables name c.args.width contents before holds c.in_default.ensures.found))

pub returns-then-width-columns-clause-widened : goal.returns-then-width-columns-clause-widened
returns-then-width-columns-clause-widened g c = λ honest before holds.
    let contents = g.S.RowStore.contents c.args.store.now in
    let name = c.args.name.now in
    let laws = c.catalogs.ensures.place in
    let bytes = c.bytes_widen.ensures in
    let tables = c.args.catalog.now in
    let table = c.index-tables-number.result in
    let is = rw c.tables-tables.ensures.same at c.index-tables-number.is in
    let at = stands tables c.in-Some.number table c.in-Some.ensures.found.0 is in
    let named = ap (λ (t : TableDef). t.name) is ∙ c.in-Some.ensures.found.1 table in
    let columns : length c.as_slice-columns.result.now ≡ length table.key_marks =
    ap length c.as_slice-columns.ensures ∙ ap (λ (t : TableDef). length t.key_marks) (sym c.index-tables-number.is) in
    let enough : c.args.width ≤ length table.key_marks = omega (arith, columns, c.if-width-columns.true) in
    subst (λ (edits : List BodyEdit). AreEdits (widened_tables name c.args.width tables) contents edits (widened name c.args.width before)) (sym c.new-then-width-columns.ensures)
    (no_edits laws bytes tables c.tables-tables.ensures.tables name c.args.width contents before holds
    (wide_enough laws bytes tables c.tables-tables.ensures.tables name c.args.width contents before holds c.in-Some.number table at named enough))

pub returns-clause-widened : goal.returns-clause-widened
returns-clause-widened g c = λ honest before holds.
    let contents = g.S.RowStore.contents c.args.store.now in
    let name = c.args.name.now in
    let laws = c.catalogs.ensures.place in
    let bytes = c.bytes_widen.ensures in
    let tables = c.args.catalog.now in
    let table = c.index-tables-number.result in
    let is = rw c.tables-tables.ensures.same at c.index-tables-number.is in
    let at = stands tables c.in-Some.number table c.in-Some.ensures.found.0 is in
    let named = ap (λ (t : TableDef). t.name) is ∙ c.in-Some.ensures.found.1 table in
    let columns : length c.as_slice-columns.result.now ≡ length table.key_marks =
    ap length c.as_slice-columns.ensures ∙ ap (λ (t : TableDef). length t.key_marks) (sym c.index-tables-number.is) in
    let less : length table.key_marks < c.args.width = omega (arith, columns, c.if-width-columns.false) in
    let listing : IsListing (stored_tables contents c.in-Some.number) (pairs_of c.in-Ok.listed.items) = c.in-Ok.ensures.listed honest in
    let more : c.in_ok-more.more.items ≡ replicate (c.args.width - length table.key_marks) null_type = c.in_ok-more.ensures ∙ ap (λ (n : ℕ). replicate (c.args.width - n) null_type) columns in
    let made : c.in_ok-edits.edits ≡ padded_edits c.in-Some.number (replicate (c.args.width - length table.key_marks) null_type) (pairs_of c.in-Ok.listed.items) =
    rw (c.as_slice.ensures.value, c.as_slice-2.ensures.value, more) at c.in_ok-edits.ensures in
    subst (λ (edits : List BodyEdit). AreEdits (widened_tables name c.args.width tables) contents edits (widened name c.args.width before)) (sym made)
    (padded_are laws bytes tables c.tables-tables.ensures.tables name c.args.width contents before holds c.in-Some.number table at named less (pairs_of c.in-Ok.listed.items) listing)
