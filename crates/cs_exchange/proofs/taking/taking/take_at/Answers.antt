use Rattle.std.proofs.Common.{◌∙◌, sym, subst}
use Rattle.cs_store.specs.Contents.{Contents}
use Rattle.cs_store.specs.declared.fault.StoreFault.TheVariants as stored
use Rattle.cs_pending.specs.Steps.{settles_none}
use Rattle.cs_pending.specs.Storing.{then_not_written, then_written, went_well}
use Rattle.cs_pending.specs.position.Shows.{ShowsSomeAt}
use Rattle.cs_exchange.specs.declared.taking.fault.TakeFault.TheVariants.{Device}
use Rattle.cs_exchange.proofs.TakingLemmas.Called.{taken_count, taken_in}
use Rattle.cs_exchange.proofs.TakingLemmas.Gathered.{was_device}
use Rattle.cs_exchange.proofs.taking.taking.take_at.Goals as goal

pub returns-in-Ok-commit_taken-clause-writes : goal.returns-in-Ok-commit_taken-clause-writes
returns-in-Ok-commit_taken-clause-writes g c =
    then_written g.S.RowStore _ _ _ _ _ c.args.store.now c.gather_edits.new.store c.commit_taken.new.store
    (λ some. (some.0, some.1.rows))
    (λ honest some. subst (λ (cs : Contents). ShowsSomeAt c.args.catalog.now c.args.position.now cs) (sym (c.in-Ok.ensures.reads.same honest)) some)
    (λ honest left committed. taken_in g.P.Picker.picks c.args.catalog.now c.args.position.now c.args.next c.args.changes.now c.args.picker.now c.gather_edits.new.picker (g.S.RowStore.contents c.args.store.now) (g.S.RowStore.contents c.gather_edits.new.store) left c.gather_edits.new.settling
    (c.in-Ok.ensures.reads.same honest)
    (λ seen shows under. c.in-Ok.ensures.settled honest seen shows under c.args.position.now.pending (settles_none c.args.catalog.now (g.S.RowStore.contents c.args.store.now) c.args.position.now.pending c.new-settling.result seen c.new-settling.ensures.rows c.new-settling.ensures.pending c.new-settling.ensures.count shows))
    committed)
    (went_well g.S.RowStore Device _ c.args.store.now c.gather_edits.new.store c.in-Ok.field-0 c.in-Ok.ensures.reads)
    stored.Device Device c.in-Ok-commit_taken.count c.in-Ok-commit_taken.count c.in-Ok-commit_taken.ensures.writes

pub returns-in-Ok-commit_taken-clause-counted : goal.returns-in-Ok-commit_taken-clause-counted
returns-in-Ok-commit_taken-clause-counted g c = λ honest some.
    let before = c.in-Ok-commit_taken.ensures.writes.was_honest honest in
    c.in-Ok-commit_taken.ensures.counted ∙ taken_count g.P.Picker.picks c.args.catalog.now c.args.position.now c.args.next c.args.changes.now c.args.picker.now c.gather_edits.new.picker (g.S.RowStore.contents c.args.store.now) (g.S.RowStore.contents c.gather_edits.new.store) (g.S.RowStore.contents c.commit_taken.new.store) c.gather_edits.new.settling
    (c.in-Ok.ensures.reads.same before)
    (λ seen shows under. c.in-Ok.ensures.settled before seen shows under c.args.position.now.pending (settles_none c.args.catalog.now (g.S.RowStore.contents c.args.store.now) c.args.position.now.pending c.new-settling.result seen c.new-settling.ensures.rows c.new-settling.ensures.pending c.new-settling.ensures.count shows))
    (c.in-Ok-commit_taken.ensures.writes.ok honest) some

pub returns-in-Err-commit_taken-clause-writes : goal.returns-in-Err-commit_taken-clause-writes
returns-in-Err-commit_taken-clause-writes g c =
    then_not_written g.S.RowStore _ _ _ _ _ c.args.store.now c.gather_edits.new.store c.commit_taken.new.store
    (λ some. (some.0, some.1.rows))
    (λ honest some. subst (λ (cs : Contents). ShowsSomeAt c.args.catalog.now c.args.position.now cs) (sym (c.in-Ok.ensures.reads.same honest)) some)
    (λ honest left committed. taken_in g.P.Picker.picks c.args.catalog.now c.args.position.now c.args.next c.args.changes.now c.args.picker.now c.gather_edits.new.picker (g.S.RowStore.contents c.args.store.now) (g.S.RowStore.contents c.gather_edits.new.store) left c.gather_edits.new.settling
    (c.in-Ok.ensures.reads.same honest)
    (λ seen shows under. c.in-Ok.ensures.settled honest seen shows under c.args.position.now.pending (settles_none c.args.catalog.now (g.S.RowStore.contents c.args.store.now) c.args.position.now.pending c.new-settling.result seen c.new-settling.ensures.rows c.new-settling.ensures.pending c.new-settling.ensures.count shows))
    committed)
    (went_well g.S.RowStore Device _ c.args.store.now c.gather_edits.new.store c.in-Ok.field-0 c.in-Ok.ensures.reads)
    stored.Device c.in-Err-commit_taken.fault Device c.from.result (was_device c.in-Err-commit_taken.fault c.from.result c.from.ensures.0) c.in-Err-commit_taken.ensures.writes
