use Rattle.std.proofs.Common.{ap, drop, subst, sym, take, ◌∙◌, Err, List}
use Rattle.cs_store.specs.declared.log.fault.BodyFault.{BodyFault}
use Rattle.cs_pending.specs.Storing.{misread_told}
use Rattle.cs_store.specs.Contents.{LogItem}
use Rattle.cs_store.specs.Written.{items_of}
use Rattle.cs_hub.specs.log_reading.Reading.{ShowsEntriesBy}
use Rattle.cs_hub.specs.log_reading.Steps.{AreStoredAs}
use Rattle.cs_hub.specs.log_store.Versions.{tables_by}
use Rattle.cs_hub.proofs.LogReadingLemmas.Found.{are_stored, has_range_by, no_memory, read_failed, read_well}
use Rattle.cs_hub.proofs.log_reading.reading.entries_at.Goals as goal

pub returns-in-Err-clause-reads : goal.returns-in-Err-clause-reads
returns-in-Err-clause-reads g c =
    read_failed g.S.RowStore _ _ (has_range_by c.args.catalogs.now (g.S.RowStore.contents c.args.store.now) c.args.first c.args.count) c.args.store.now c.stored_from.new.store c.in-Err.fault c.in-Err.ensures.reads

pub returns-in-Ok-read_each-clause-reads : goal.returns-in-Ok-read_each-clause-reads
returns-in-Ok-read_each-clause-reads g c =
    read_well g.S.RowStore _ _ (has_range_by c.args.catalogs.now (g.S.RowStore.contents c.args.store.now) c.args.first c.args.count) c.args.store.now c.stored_from.new.store c.in-Ok.stored c.in-Ok-read_each.entries c.in-Ok.ensures.reads

pub returns-in-Ok-read_each-clause-found : goal.returns-in-Ok-read_each-clause-found
returns-in-Ok-read_each-clause-found g c = λ honest log shows within.
    let entries = take c.args.count (drop c.args.first log) in
    c.in-Ok-read_each.ensures.read entries
    (subst (λ (items : List LogItem). AreStoredAs (tables_by c.args.catalogs.now) c.args.first items entries) (sym (ap items_of c.as_slice.ensures.value ∙ c.in-Ok.ensures.found honest)) (are_stored c.catalog_by_widens.ensures c.catalog_next.ensures c.args.catalogs.now (g.S.RowStore.contents c.args.store.now) log shows c.args.first c.args.count within))

pub returns-in-Err-NoBody-clause-reads : goal.returns-in-Err-NoBody-clause-reads
returns-in-Err-NoBody-clause-reads g c =
    misread_told g.S.RowStore c.misread.result _ _ c.args.store.now c.stored_from.new.store c.misread.new.self c.in-Ok.stored
    (λ honest (some : ShowsEntriesBy c.args.catalogs.now (g.S.RowStore.contents c.args.store.now) c.args.first c.args.count).
    let entries = take c.args.count (drop c.args.first some.0) in
    c.in-Err-NoBody.ensures.unread entries
    (subst (λ (items : List LogItem). AreStoredAs (tables_by c.args.catalogs.now) c.args.first items entries) (sym (ap items_of c.as_slice.ensures.value ∙ c.in-Ok.ensures.found honest)) (are_stored c.catalog_by_widens.ensures c.catalog_next.ensures c.args.catalogs.now (g.S.RowStore.contents c.args.store.now) some.0 some.1 c.args.first c.args.count some.2))
    (ap (λ (fault : BodyFault). Err fault) c.in-Err-NoBody.field-0-is))
    c.in-Ok.ensures.reads c.misread.ensures.counted

pub returns-clause-reads : goal.returns-clause-reads
returns-clause-reads g c =
    no_memory g.S.RowStore _ _ (has_range_by c.args.catalogs.now (g.S.RowStore.contents c.args.store.now) c.args.first c.args.count) c.args.store.now c.stored_from.new.store c.in-Ok.stored c.in-Ok.ensures.reads
