use Rattle.std.proofs.Common.{length}
use Rattle.cs_pending.specs.Shows.{ShowsSome}
use Rattle.cs_pending.specs.Storing.{misread_told}
use Rattle.cs_store.specs.Contents.{stored_tables}
use Rattle.cs_pending.proofs.RowsLemmas.Spelled.{all_bodies, are_rows, shown_fits}
use Rattle.cs_pending.proofs.rows.reading.read_rows.Goals as goal

pub returns-in-Some-clause-listed : goal.returns-in-Some-clause-listed
returns-in-Some-clause-listed g c = λ honest view shows.
    let found = rw (c.as_slice-columns.ensures, c.as_slice.ensures.value) at c.in_ok-rows.ensures.found in
    are_rows c.rows.ensures.spelled (length c.args.table.now.key_marks) (view.tables c.args.table.now.name) (stored_tables (g.S.RowStore.contents c.args.store.now) c.args.number) c.in-Ok.listed.items c.in-Some.rows.items
    (c.in-Ok.ensures.listed honest)
    (λ key. shows.rows.stored c.args.number c.args.table.now key c.requires)
    (shown_fits c.catalogs.ensures.place c.args.catalog.now c.tables-tables.ensures.tables c.args.number c.args.table.now c.requires (g.S.RowStore.contents c.args.store.now) view shows)
    (rw c.in-Some.is at found)

pub returns-clause-reads : goal.returns-clause-reads
returns-clause-reads g c =
    misread_told g.S.RowStore c.misread.result
    (ShowsSome c.args.catalog.now (g.S.RowStore.contents c.args.store.now)) (Unit {0}) c.args.store.now c.list_bodies.new.store c.misread.new.self c.in-Ok.listed
    (λ honest some.
    let only = rw (c.as_slice-columns.ensures, c.as_slice.ensures.value) at c.in_ok-rows.ensures.only in
    let there = only (all_bodies (length c.args.table.now.key_marks) (some.0.tables c.args.table.now.name) (stored_tables (g.S.RowStore.contents c.args.store.now) c.args.number) c.in-Ok.listed.items
    (c.in-Ok.ensures.listed honest)
    (λ key. some.1.rows.stored c.args.number c.args.table.now key c.requires)
    (shown_fits c.catalogs.ensures.place c.args.catalog.now c.tables-tables.ensures.tables c.args.number c.args.table.now c.requires (g.S.RowStore.contents c.args.store.now) some.0 some.1)) in
    absurd (let no = rw c.in-None.is at there in cc))
    c.in-Ok.ensures.reads c.misread.ensures.counted
