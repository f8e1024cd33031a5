use Rattle.std.proofs.Common.{◌≡◌, ◌++◌, ◌-◌, ◌∙◌, List, length, ap, subst, sym}
use Rattle.cs_store.specs.edits.Edits.{BodyEdit}
use Rattle.cs_value.specs.declared.catalog.TableDef.{TableDef}
use Rattle.cs_widening.specs.Widening.{widened_tables}
use Rattle.cs_padding.specs.Pending.{MakesPending, pending_after, widened_pending}
use Rattle.cs_padding.proofs.Behind.{folded_count, folded_makes}
use Rattle.cs_padding.proofs.Widened.{stands}
use Rattle.cs_padding.proofs.folded.widen_pending_with.Goals as goal

pub returns-clause-widened : goal.returns-clause-widened
returns-clause-widened g c = λ honest pending end pends makes.
    let contents = g.S.RowStore.contents c.args.store.now in
    let name = c.args.name.now in
    let tables = c.args.catalog.now in
    let width = c.args.width in
    let edits = c.args.edits.now in
    let table = c.index-tables-number.result in
    let is = rw c.tables-tables.ensures.same at c.index-tables-number.is in
    let at = stands tables c.in-Some.number table c.in-Some.ensures.found.0 is in
    let named = ap (λ (t : TableDef). t.name) is ∙ c.in-Some.ensures.found.1 table in
    let marks : c.as_slice-marks.result.now ≡ table.key_marks = c.as_slice-marks.ensures ∙ ap (λ (t : TableDef). t.key_marks) (sym c.index-tables-number.is) in
    let behind = rw (c.saturating_sub.ensures, marks) at c.in_ok-push_widened.ensures in
    let widens = c.in-Ok.ensures.widened honest pending pends in
    subst (λ (out : List BodyEdit). MakesPending (widened_tables name width tables) contents out (widened_pending name width end) × (pending_after contents out ≡ pending_after contents edits)) (sym behind.1) (
      folded_makes c.catalogs.ensures.place c.changesets.ensures.changes c.bytes_widen.ensures c.commits.ensures.edits c.commits.ensures.bodies tables c.tables-tables.ensures.tables name width
          contents pending end pends c.in-Some.number table at named edits makes c.in-Ok.made widens behind.0 behind.2,
      folded_count c.catalogs.ensures.place c.changesets.ensures.changes c.bytes_widen.ensures c.commits.ensures.edits c.commits.ensures.bodies tables c.tables-tables.ensures.tables name width
          contents pending end pends c.in-Some.number table at named edits makes c.in-Ok.made widens behind.0 behind.2,
    )
