use Rattle.std.proofs.Common.{Err, Ok, refl}
use Rattle.cs_pending.specs.position.Shows.{ShowsSomeAt}
use Rattle.cs_exchange.specs.pulling.Listed.{IsDeviceFault}
use Rattle.cs_exchange.specs.declared.pulling.listing.Pulled.TheVariants.{Stopped}
use Rattle.cs_replica.proofs.Answered.{entries_tell, entries_write, merged_ignored, merged_tells, merged_writes}
use Rattle.cs_replica.proofs.answering.answer_at.Goals as goal

pub returns-in-Ok-Taken-clause-writes : goal.returns-in-Ok-Taken-clause-writes
returns-in-Ok-Taken-clause-writes g c =
    entries_write g.P.Picker.picks g.S.RowStore c.args.catalog.now c.take_entries.new.catalog c.args.answer.now c.in-Entries.first c.in-Entries.entries c.in-Entries.is c.args.position.now c.args.store.now c.take_entries.new.store c.args.picker.now
    (Unit {0}) ⊥ (ShowsSomeAt c.args.catalog.now c.args.position.now (g.S.RowStore.contents c.args.store.now)) c.take_entries.new.position
    (rw c.in-Ok-Taken.field-0-is at c.in-Ok-Taken.ensures.writes)

pub returns-in-Ok-Stopped-clause-told : goal.returns-in-Ok-Stopped-clause-told
returns-in-Ok-Stopped-clause-told g c = λ honest before shows.
    entries_tell g.P.Picker.picks g.S.RowStore c.args.catalog.now c.take_entries.new.catalog c.args.answer.now c.in-Entries.first c.in-Entries.entries c.in-Entries.is c.args.position.now c.args.store.now c.take_entries.new.store c.args.picker.now
    (Ok (Stopped c.in-Ok-Stopped.count)) before c.take_entries.new.position c.take_entries.new.picker ((rw c.in-Ok-Stopped.field-0-is at c.in-Ok-Stopped.ensures.pulls) honest before shows)

pub returns-in-Ok-Stopped-clause-writes : goal.returns-in-Ok-Stopped-clause-writes
returns-in-Ok-Stopped-clause-writes g c =
    entries_write g.P.Picker.picks g.S.RowStore c.args.catalog.now c.take_entries.new.catalog c.args.answer.now c.in-Entries.first c.in-Entries.entries c.in-Entries.is c.args.position.now c.args.store.now c.take_entries.new.store c.args.picker.now
    ⊥ ⊥ (ShowsSomeAt c.args.catalog.now c.args.position.now (g.S.RowStore.contents c.args.store.now)) c.take_entries.new.position
    (rw c.in-Ok-Stopped.field-0-is at c.in-Ok-Stopped.ensures.writes)

pub returns-in-Err-clause-told : goal.returns-in-Err-clause-told
returns-in-Err-clause-told g c = λ honest before shows.
    entries_tell g.P.Picker.picks g.S.RowStore c.args.catalog.now c.take_entries.new.catalog c.args.answer.now c.in-Entries.first c.in-Entries.entries c.in-Entries.is c.args.position.now c.args.store.now c.take_entries.new.store c.args.picker.now
    (Err c.in-Err.fault) before c.take_entries.new.position c.take_entries.new.picker (c.in-Err.ensures.pulls honest before shows)

pub returns-in-Err-clause-writes : goal.returns-in-Err-clause-writes
returns-in-Err-clause-writes g c =
    entries_write g.P.Picker.picks g.S.RowStore c.args.catalog.now c.take_entries.new.catalog c.args.answer.now c.in-Entries.first c.in-Entries.entries c.in-Entries.is c.args.position.now c.args.store.now c.take_entries.new.store c.args.picker.now
    ⊥ (IsDeviceFault c.in-Err.fault) (ShowsSomeAt c.args.catalog.now c.args.position.now (g.S.RowStore.contents c.args.store.now)) c.take_entries.new.position
    c.in-Err.ensures.writes

pub returns-then-not-is_for_it-clause-told : goal.returns-then-not-is_for_it-clause-told
returns-then-not-is_for_it-clause-told g c = λ honest before shows.
    merged_ignored g.P.Picker.picks c.args.catalog.now c.args.answer.now c.in-Merged.origin c.in-Merged.first c.in-Merged.next c.in-Merged.changeset c.in-Merged.is c.args.position.now
    (λ meant. let e = c.if-not-is_for_it.ensures.1 meant in cc) before c.args.picker.now (g.S.RowStore.contents c.args.store.now) shows

pub returns-else-not-is_for_it-clause-told : goal.returns-else-not-is_for_it-clause-told
returns-else-not-is_for_it-clause-told g c = λ honest before shows.
    merged_tells g.P.Picker.picks c.args.catalog.now c.args.answer.now c.in-Merged.origin c.in-Merged.first c.in-Merged.next c.in-Merged.changeset c.bytes-bytes.result.now c.in-Merged.is c.bytes-bytes.ensures c.args.position.now
    (c.if-not-is_for_it.ensures.0 refl) c.merge_at.result before c.args.picker.now c.merge_at.new.picker c.merge_at.new.position (g.S.RowStore.contents c.merge_at.new.store) (c.merge_at.ensures.told honest before shows)

pub returns-else-not-is_for_it-clause-writes : goal.returns-else-not-is_for_it-clause-writes
returns-else-not-is_for_it-clause-writes g c =
    merged_writes g.P.Picker.picks c.args.catalog.now c.args.answer.now c.in-Merged.origin c.in-Merged.first c.in-Merged.next c.in-Merged.changeset c.bytes-bytes.result.now c.in-Merged.is c.bytes-bytes.ensures c.args.position.now
    (c.if-not-is_for_it.ensures.0 refl) g.S.RowStore _ _ _ c.merge_at.new.position c.args.picker.now c.args.store.now c.merge_at.new.store c.merge_at.ensures.writes
