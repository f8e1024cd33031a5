use Rattle.cs_store.specs.log.Log.{state_of}
use Rattle.cs_hub.proofs.AppendingLemmas.Batches.{appended_in, as_log_read, as_log_refused, holds_newest, told}
use Rattle.cs_hub.proofs.appending.appending.try_entry.Goals as goal

pub returns-in-Err-clause-reads : goal.returns-in-Err-clause-reads
returns-in-Err-clause-reads g c =
    as_log_refused g.S.RowStore c.args.catalogs.now c.args.entry.now c.catalog_by_widens.ensures
    c.args.store.now c.try_body.new.store c.in-Err.fault (rw c.present.ensures at c.in-Err.ensures.reads)

pub returns-in-Err-clause-refused : goal.returns-in-Err-clause-refused
returns-in-Err-clause-refused g c = λ honest log shows.
    let old = g.S.RowStore.contents c.args.store.now in
    told c.catalog_by_widens.ensures c.args.catalogs.now c.args.entry.now (rw c.opening.ensures at c.tables-tables.ensures.tables) c.requires.fits old log c.in-Err.fault shows
    ((rw c.present.ensures at c.in-Err.ensures.refused) honest (state_of log) (holds_newest c.catalog_by_widens.ensures c.args.catalogs.now old log shows))

pub returns-clause-reads : goal.returns-clause-reads
returns-clause-reads g c =
    as_log_read g.S.RowStore c.args.catalogs.now c.args.entry.now c.catalog_by_widens.ensures
    c.args.store.now c.try_body.new.store _ _ (rw c.present.ensures at c.in-Ok.ensures.reads)

pub returns-clause-tried : goal.returns-clause-tried
returns-clause-tried g c = λ honest.
    appended_in c.catalog_by_widens.ensures c.args.catalogs.now c.args.entry.now (rw c.opening.ensures at c.tables-tables.ensures.tables) c.requires.fits c.append_shows.ensures
    (g.S.RowStore.contents c.args.store.now) c.in-Ok.edits c.in_ok-batch.batch ((rw c.present.ensures at c.in-Ok.ensures.made) honest) c.in_ok-batch.ensures
