use Rattle.std.proofs.Common.{◌≡◌, ◌≢◌, ◌<◌, ◌≤◌, ◌∙◌, ℕ, List, [], length, subst, sym, rules}
use Rattle.cs_normal.specs.Normal.{normal_spelling}
use Rattle.cs_normal.specs.declared.normal.TableChanges.{TableChanges}
use Rattle.cs_store.specs.declared.log.entry.TheConstants.{MAX_CHANGESET}
use Rattle.cs_pending.specs.outgoing.Outgoing.{IsPendingOf}
use Rattle.cs_pending.specs.Storing.{misread_told}
use Rattle.cs_pending.proofs.OutgoingLemmas.Answered.{nothing_pending, read_pending, same_read, spells_pending, too_large}
use Rattle.cs_pending.proofs.OutgoingLemmas.Gathered.{Laws}
use Rattle.cs_pending.proofs.outgoing.gathering.gather.Goals as goal

pub returns-then-is_empty-clause-gathered : goal.returns-then-is_empty-clause-gathered
returns-then-is_empty-clause-gathered g c = λ honest view shows.
    let laws : Laws c.args.catalog.now = record { are = c.tables.ensures.tables; one = c.catalogs.ensures.place; key = c.one_key_stands.ensures; net_takes = c.net_takes.ensures; headers = c.headers_fit.ensures } in
    let none : length c.as_slice-written.result.now ≡ 0 = search rules in
    nothing_pending c.args.catalog.now view.pending c.as_slice-written.result.now none
    (rw (sym c.as_slice-written.ensures.value) at (spells_pending c.args.catalog.now laws c.catalog_is_apart.ensures c.fitting_is_normal.ensures (g.S.RowStore.contents c.args.store.now) view shows c.tables.result.now c.new-bytes.result.items c.put_tables.new.out.items c.tables.ensures.same c.new-bytes.ensures.items (c.in-Ok.ensures.put honest)))

pub returns-then-written-gt-MAX_CHANGESET-clause-gathered : goal.returns-then-written-gt-MAX_CHANGESET-clause-gathered
returns-then-written-gt-MAX_CHANGESET-clause-gathered g c = λ honest view shows.
    let laws : Laws c.args.catalog.now = record { are = c.tables.ensures.tables; one = c.catalogs.ensures.place; key = c.one_key_stands.ensures; net_takes = c.net_takes.ensures; headers = c.headers_fit.ensures } in
    too_large c.args.catalog.now view.pending c.put_tables.new.out.items (subst (λ (bytes : List ℕ). MAX_CHANGESET < length bytes) c.as_slice-written.ensures.value c.if-written-gt-MAX_CHANGESET.true)
    (spells_pending c.args.catalog.now laws c.catalog_is_apart.ensures c.fitting_is_normal.ensures (g.S.RowStore.contents c.args.store.now) view shows c.tables.result.now c.new-bytes.result.items c.put_tables.new.out.items c.tables.ensures.same c.new-bytes.ensures.items (c.in-Ok.ensures.put honest))

pub returns-in_default-clause-reads : goal.returns-in_default-clause-reads
returns-in_default-clause-reads g c =
    let laws : Laws c.args.catalog.now = record { are = c.tables.ensures.tables; one = c.catalogs.ensures.place; key = c.one_key_stands.ensures; net_takes = c.net_takes.ensures; headers = c.headers_fit.ensures } in
    misread_told g.S.RowStore _ _ _ c.args.store.now c.put_tables.new.store c.misread.new.self _
    (λ honest some.
    let read = read_pending c.args.catalog.now some.0.pending c.as_slice-written.result.now c.in_ok-changes.field-0 (λ (none : length c.as_slice-written.result.now ≡ 0). search rules) c.if-written-gt-MAX_CHANGESET.false c.in_ok-changes.ensures
    (rw (sym c.as_slice-written.ensures.value) at (spells_pending c.args.catalog.now laws c.catalog_is_apart.ensures c.fitting_is_normal.ensures (g.S.RowStore.contents c.args.store.now) some.0 some.1 c.tables.result.now c.new-bytes.result.items c.put_tables.new.out.items c.tables.ensures.same c.new-bytes.ensures.items (c.in-Ok.ensures.put honest))) in
    (let no = sym c.in_default.is ∙ read.1 in cc))
    c.in-Ok.ensures.reads c.misread.ensures.counted

pub returns-clause-gathered : goal.returns-clause-gathered
returns-clause-gathered g c = λ honest view shows.
    let laws : Laws c.args.catalog.now = record { are = c.tables.ensures.tables; one = c.catalogs.ensures.place; key = c.one_key_stands.ensures; net_takes = c.net_takes.ensures; headers = c.headers_fit.ensures } in
    let read = read_pending c.args.catalog.now view.pending c.as_slice-written.result.now c.in_ok-changes.field-0 (λ (none : length c.as_slice-written.result.now ≡ 0). search rules) c.if-written-gt-MAX_CHANGESET.false c.in_ok-changes.ensures
    (rw (sym c.as_slice-written.ensures.value) at (spells_pending c.args.catalog.now laws c.catalog_is_apart.ensures c.fitting_is_normal.ensures (g.S.RowStore.contents c.args.store.now) view shows c.tables.result.now c.new-bytes.result.items c.put_tables.new.out.items c.tables.ensures.same c.new-bytes.ensures.items (c.in-Ok.ensures.put honest))) in
    subst (λ (cs : List TableChanges). IsPendingOf c.args.catalog.now view.pending cs × (cs ≢ []) × (length (normal_spelling cs) ≤ MAX_CHANGESET))
    (same_read c.in_ok-changes.field-0 read.0 c.in-Some.changes read.1 c.in-Some.is) (read.2, read.3, read.4)
