use Rattle.std.proofs.Common.{sym}
use Rattle.cs_store.specs.Written.{item_of}
use Rattle.cs_hub.proofs.LogReadingLemmas.Found.{has_it, is_it}
use Rattle.cs_hub.proofs.log_reading.reading.has_entry.Goals as goal

pub returns-clause-told : goal.returns-clause-told
returns-clause-told g c = λ honest log shows.
    let at = sym ((rw c.in-Ok-Some.field-0-is at c.in-Ok-Some.ensures.found) honest) in
    let old = g.S.RowStore.contents c.args.store.now in (
      (λ is. has_it c.catalog_by_widens.ensures c.one_body.ensures c.args.catalogs.now c.args.version (rw c.at.ensures at c.tables-tables.ensures.tables) old log shows c.args.entry.now c.requires (item_of c.in-Ok-Some.stored) at (c.in_ok-is.ensures.0 is)),
      (λ there. c.in_ok-is.ensures.1 (is_it c.args.catalogs.now.opening old log shows.0 c.args.version c.args.entry.now (item_of c.in-Ok-Some.stored) at there)),
    )
