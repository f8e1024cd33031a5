use Rattle.std.proofs.Common.{refl}
use Rattle.cs_pending.specs.Shows.{ShowsSome}
use Rattle.cs_pending.specs.Storing.{reads_well, then_reads_failed, then_well, went_well}
use Rattle.cs_opening.proofs.Judged.{judged, some_later}
use Rattle.cs_opening.proofs.Seen.{SeenLaws}
use Rattle.cs_opening.proofs.opening.count_sound.Goals as goal

pub returns-in-Ok-true-flight_leads-clause-reads : goal.returns-in-Ok-true-flight_leads-clause-reads
returns-in-Ok-true-flight_leads-clause-reads g c =
    let law : SeenLaws c.args.catalog.now = record {
      catalogs = record { are = c.tables-tables.ensures.tables; one = c.catalogs.ensures.place; key = c.one_key_stands.ensures; net_takes = c.net_takes.ensures };
      set = c.set_columns_fit.ensures;
      rows = c.rows.ensures.spelled;
      changes = c.changesets.ensures.changes;
    } in
    reads_well g.S.RowStore _ _ _ _ _
    (then_well g.S.RowStore (Unit {0}) (ShowsSome c.args.catalog.now (g.S.RowStore.contents c.count_tables.new.store)) (Unit {0}) c.args.store.now c.count_tables.new.store c.flight_leads.new.store (λ t. t)
    (λ honest t.
    let was = c.in-Ok-Some.ensures.reads.was_honest honest in
    some_later c.args.catalog.now law (g.S.RowStore.contents c.args.store.now) (g.S.RowStore.contents c.holds_places.new.store) (g.S.RowStore.contents c.count_tables.new.store) (c.in-Ok-true.ensures.reads.same was) (c.in-Ok-Some.ensures.reads.same honest)
    (((rw c.in-Ok-true.field-0-test at c.in-Ok-true.ensures.told) was).0 refl) c.tables-tables.result.now c.tables-tables.ensures.same c.in-Ok-Some.pending ((rw c.in-Ok-Some.field-0-is at c.in-Ok-Some.ensures.counted) honest))
    (then_well g.S.RowStore (Unit {0}) (Unit {0}) (Unit {0}) c.args.store.now c.holds_places.new.store c.count_tables.new.store (λ t. t) (λ honest t. t)
    (went_well g.S.RowStore _ _ _ _ _ c.in-Ok-true.ensures.reads)
    (went_well g.S.RowStore _ _ _ _ _ c.in-Ok-Some.ensures.reads))
    (went_well g.S.RowStore _ _ _ _ _ c.in-Ok-true-flight_leads.ensures.reads))

pub returns-in-Ok-true-flight_leads-clause-told : goal.returns-in-Ok-true-flight_leads-clause-told
returns-in-Ok-true-flight_leads-clause-told g c = λ honest fits.
    let law : SeenLaws c.args.catalog.now = record {
      catalogs = record { are = c.tables-tables.ensures.tables; one = c.catalogs.ensures.place; key = c.one_key_stands.ensures; net_takes = c.net_takes.ensures };
      set = c.set_columns_fit.ensures;
      rows = c.rows.ensures.spelled;
      changes = c.changesets.ensures.changes;
    } in
    let counted = c.in-Ok-true-flight_leads.ensures.reads.was_honest honest in
    let was = c.in-Ok-Some.ensures.reads.was_honest counted in
    judged c.args.catalog.now law (g.S.RowStore.contents c.args.store.now) (g.S.RowStore.contents c.holds_places.new.store) (g.S.RowStore.contents c.count_tables.new.store) (c.in-Ok-true.ensures.reads.same was) (c.in-Ok-Some.ensures.reads.same counted)
    (((rw c.in-Ok-true.field-0-test at c.in-Ok-true.ensures.told) was).0 refl) c.tables-tables.result.now c.tables-tables.ensures.same _ c.in-Ok-Some.pending ((rw c.in-Ok-Some.field-0-is at c.in-Ok-Some.ensures.counted) counted)
    (λ view shows. ((rw c.in-Ok-true-flight_leads.field-0-test at c.in-Ok-true-flight_leads.ensures.told) honest view shows fits).0 refl)

pub returns-in-Ok-false-flight_leads-clause-reads : goal.returns-in-Ok-false-flight_leads-clause-reads
returns-in-Ok-false-flight_leads-clause-reads g c =
    let law : SeenLaws c.args.catalog.now = record {
      catalogs = record { are = c.tables-tables.ensures.tables; one = c.catalogs.ensures.place; key = c.one_key_stands.ensures; net_takes = c.net_takes.ensures };
      set = c.set_columns_fit.ensures;
      rows = c.rows.ensures.spelled;
      changes = c.changesets.ensures.changes;
    } in
    reads_well g.S.RowStore _ _ _ _ _
    (then_well g.S.RowStore (Unit {0}) (ShowsSome c.args.catalog.now (g.S.RowStore.contents c.count_tables.new.store)) (Unit {0}) c.args.store.now c.count_tables.new.store c.flight_leads.new.store (λ t. t)
    (λ honest t.
    let was = c.in-Ok-Some.ensures.reads.was_honest honest in
    some_later c.args.catalog.now law (g.S.RowStore.contents c.args.store.now) (g.S.RowStore.contents c.holds_places.new.store) (g.S.RowStore.contents c.count_tables.new.store) (c.in-Ok-true.ensures.reads.same was) (c.in-Ok-Some.ensures.reads.same honest)
    (((rw c.in-Ok-true.field-0-test at c.in-Ok-true.ensures.told) was).0 refl) c.tables-tables.result.now c.tables-tables.ensures.same c.in-Ok-Some.pending ((rw c.in-Ok-Some.field-0-is at c.in-Ok-Some.ensures.counted) honest))
    (then_well g.S.RowStore (Unit {0}) (Unit {0}) (Unit {0}) c.args.store.now c.holds_places.new.store c.count_tables.new.store (λ t. t) (λ honest t. t)
    (went_well g.S.RowStore _ _ _ _ _ c.in-Ok-true.ensures.reads)
    (went_well g.S.RowStore _ _ _ _ _ c.in-Ok-Some.ensures.reads))
    (went_well g.S.RowStore _ _ _ _ _ c.in-Ok-false-flight_leads.ensures.reads))

pub returns-clause-reads : goal.returns-clause-reads
returns-clause-reads g c =
    let law : SeenLaws c.args.catalog.now = record {
      catalogs = record { are = c.tables-tables.ensures.tables; one = c.catalogs.ensures.place; key = c.one_key_stands.ensures; net_takes = c.net_takes.ensures };
      set = c.set_columns_fit.ensures;
      rows = c.rows.ensures.spelled;
      changes = c.changesets.ensures.changes;
    } in
    then_reads_failed g.S.RowStore _ _ (Unit {0}) (ShowsSome c.args.catalog.now (g.S.RowStore.contents c.count_tables.new.store)) (Unit {0}) c.args.store.now c.count_tables.new.store c.flight_leads.new.store (λ t. t)
    (λ honest t.
    let was = c.in-Ok-Some.ensures.reads.was_honest honest in
    some_later c.args.catalog.now law (g.S.RowStore.contents c.args.store.now) (g.S.RowStore.contents c.holds_places.new.store) (g.S.RowStore.contents c.count_tables.new.store) (c.in-Ok-true.ensures.reads.same was) (c.in-Ok-Some.ensures.reads.same honest)
    (((rw c.in-Ok-true.field-0-test at c.in-Ok-true.ensures.told) was).0 refl) c.tables-tables.result.now c.tables-tables.ensures.same c.in-Ok-Some.pending ((rw c.in-Ok-Some.field-0-is at c.in-Ok-Some.ensures.counted) honest))
    (then_well g.S.RowStore (Unit {0}) (Unit {0}) (Unit {0}) c.args.store.now c.holds_places.new.store c.count_tables.new.store (λ t. t) (λ honest t. t)
    (went_well g.S.RowStore _ _ _ _ _ c.in-Ok-true.ensures.reads)
    (went_well g.S.RowStore _ _ _ _ _ c.in-Ok-Some.ensures.reads))
    c.in-Err-flight_leads.ensures.reads
