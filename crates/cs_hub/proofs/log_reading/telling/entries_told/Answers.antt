use Rattle.std.proofs.Common.{ap, drop, map, subst, sym, take, ◌∙◌, List}
use Rattle.cs_store.specs.declared.log.entry.LogEntry.{LogEntry}
use Rattle.cs_pending.specs.Storing.{misread_told}
use Rattle.cs_store.specs.Contents.{LogItem}
use Rattle.cs_store.specs.Written.{items_of}
use Rattle.cs_hub.specs.log_reading.Reading.{ShowsEntries}
use Rattle.cs_hub.specs.log_reading.Steps.{AreToldAs}
use Rattle.cs_wire.specs.Told.{told_entry}
use Rattle.cs_hub.proofs.LogReadingLemmas.Found.{all_told, has_range, no_memory, read_failed, read_well, told_from}
use Rattle.cs_hub.proofs.log_reading.telling.entries_told.Goals as goal

pub returns-in-Err-clause-reads : goal.returns-in-Err-clause-reads
returns-in-Err-clause-reads g c =
    read_failed g.S.RowStore _ _ (has_range c.args.catalog.now (g.S.RowStore.contents c.args.store.now) c.args.first c.args.count) c.args.store.now c.stored_from.new.store c.in-Err.fault c.in-Err.ensures.reads

pub returns-in-Ok-true-clause-reads : goal.returns-in-Ok-true-clause-reads
returns-in-Ok-true-clause-reads g c =
    read_well g.S.RowStore _ _ (has_range c.args.catalog.now (g.S.RowStore.contents c.args.store.now) c.args.first c.args.count) c.args.store.now c.stored_from.new.store c.in-Ok.stored c.put_each.new.out c.in-Ok.ensures.reads

pub returns-in-Ok-true-clause-told : goal.returns-in-Ok-true-clause-told
returns-in-Ok-true-clause-told g c = λ honest log shows within.
    let entries = take c.args.count (drop c.args.first log) in
    let told = subst (λ (items : List LogItem). AreToldAs items (map told_entry entries)) (sym (ap items_of c.as_slice.ensures.value ∙ c.in-Ok.ensures.found honest))
    (told_from c.args.catalog.now (g.S.RowStore.contents c.args.store.now) log shows c.args.first c.args.count within) in
    let put = c.in-Ok-true.ensures (map told_entry entries) told in
    all_told c.args.first c.args.count log c.in_ok-answer.answer.items c.put_each.new.out.items within c.in_ok-answer.ensures put.1

pub returns-in-Ok-false-clause-reads : goal.returns-in-Ok-false-clause-reads
returns-in-Ok-false-clause-reads g c =
    misread_told g.S.RowStore c.misread.result _ _ c.args.store.now c.stored_from.new.store c.misread.new.self c.in-Ok.stored
    (λ honest (some : ShowsEntries c.args.catalog.now (g.S.RowStore.contents c.args.store.now) c.args.first c.args.count).
    let log : List LogEntry = some.0 in
    let entries = take c.args.count (drop c.args.first log) in
    let told = subst (λ (items : List LogItem). AreToldAs items (map told_entry entries)) (sym (ap items_of c.as_slice.ensures.value ∙ c.in-Ok.ensures.found honest))
    (told_from c.args.catalog.now (g.S.RowStore.contents c.args.store.now) log some.1 c.args.first c.args.count some.2) in
    let put = c.in-Ok-false.ensures (map told_entry entries) told in
    (let no = put.0 in cc))
    c.in-Ok.ensures.reads c.misread.ensures.counted

pub returns-in-Err-put_each-clause-reads : goal.returns-in-Err-put_each-clause-reads
returns-in-Err-put_each-clause-reads g c =
    no_memory g.S.RowStore _ _ (has_range c.args.catalog.now (g.S.RowStore.contents c.args.store.now) c.args.first c.args.count) c.args.store.now c.stored_from.new.store c.in-Ok.stored c.in-Ok.ensures.reads
