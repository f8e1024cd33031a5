use Rattle.std.proofs.Common.{◌∙◌}
use Rattle.cs_pending.specs.Edits.{Leads, edit}
use Rattle.cs_pending.specs.Seeking.{asked_of}
use Rattle.cs_pending.specs.Settling.{Settles}
use Rattle.cs_pending.specs.Shows.{ShowsRows}
use Rattle.cs_pending.specs.Steps.{settles_none}
use Rattle.cs_pending.specs.Storing.{only_read, reads_if, then_not_written, then_written, went_well}
use Rattle.cs_pending.specs.View.{View}
use Rattle.cs_pending.proofs.Edited.{was_device}
use Rattle.cs_pending.proofs.Staged.{made_counts, made_in, none_within}
use Rattle.cs_pending.proofs.edits.edit_row.Goals as goal

pub returns-in-Err-clause-writes : goal.returns-in-Err-clause-writes
returns-in-Err-clause-writes g c =
    only_read g.S.RowStore _ _ _ _ c.args.store.now c.stage.new.store
    (reads_if g.S.RowStore _ _ _ c.args.store.now c.stage.new.store _
    (λ some. (
      c.args.pending,
      some.0,
      settles_none c.args.catalog.now (g.S.RowStore.contents c.args.store.now) c.args.pending c.new-settling.result some.0
          c.new-settling.ensures.rows c.new-settling.ensures.pending c.new-settling.ensures.count some.1,
    ))
    c.in-Err.ensures.reads)

pub returns-in-Err-clause-refused : goal.returns-in-Err-clause-refused
returns-in-Err-clause-refused g c = λ honest view shows.
    c.in-Err.ensures.refused honest c.args.pending view
    (settles_none c.args.catalog.now (g.S.RowStore.contents c.args.store.now) c.args.pending c.new-settling.result view c.new-settling.ensures.rows c.new-settling.ensures.pending c.new-settling.ensures.count shows)

pub write-requires : goal.write-requires
write-requires g c = c.in-Ok.ensures.within (none_within c.args.catalog.now c.new-settling.result c.new-settling.ensures.rows c.new-settling.ensures.pending)

pub returns-in-Ok-write-clause-writes : goal.returns-in-Ok-write-clause-writes
returns-in-Ok-write-clause-writes g c =
    let tables = c.args.catalog.now in
    let old = g.S.RowStore.contents c.args.store.now in
    let begins : (view : View) → ShowsRows tables old view → Settles tables old c.args.pending c.new-settling.result view = λ view shows. settles_none tables old c.args.pending c.new-settling.result view c.new-settling.ensures.rows c.new-settling.ensures.pending c.new-settling.ensures.count shows in
    then_written g.S.RowStore _ _ _ _ _ c.args.store.now c.stage.new.store c.write.new.store
    (λ some. (c.args.pending, some.0, begins some.0 some.1))
    (λ honest some. tt)
    (λ honest left written. made_in tables c.stage.new.settling old (g.S.RowStore.contents c.stage.new.store) left c.args.pending (Leads (edit tables c.args.name.now (asked_of c.args.row_edit.now)))
    (c.in-Ok.ensures.reads.same honest) (λ view shows. c.in-Ok.ensures.staged honest c.args.pending view (begins view shows)) written)
    (went_well g.S.RowStore _ _ _ _ _ c.in-Ok.ensures.reads)
    _ _ _ _ c.in-Ok-write.ensures.writes

pub returns-in-Ok-write-clause-counted : goal.returns-in-Ok-write-clause-counted
returns-in-Ok-write-clause-counted g c = λ honest some right.
    let tables = c.args.catalog.now in
    let old = g.S.RowStore.contents c.args.store.now in
    let begins : (view : View) → ShowsRows tables old view → Settles tables old c.args.pending c.new-settling.result view = λ view shows. settles_none tables old c.args.pending c.new-settling.result view c.new-settling.ensures.rows c.new-settling.ensures.pending c.new-settling.ensures.count shows in
    let middle = c.in-Ok-write.ensures.writes.was_honest honest in
    c.in-Ok-write.ensures.counts
    ∙ made_counts tables c.stage.new.settling old (g.S.RowStore.contents c.stage.new.store) (g.S.RowStore.contents c.write.new.store) c.args.pending (Leads (edit tables c.args.name.now (asked_of c.args.row_edit.now)))
    (c.in-Ok.ensures.reads.same middle) (λ view shows. c.in-Ok.ensures.staged middle c.args.pending view (begins view shows)) (c.in-Ok-write.ensures.writes.ok honest) some right

pub returns-in-Err-write-clause-writes : goal.returns-in-Err-write-clause-writes
returns-in-Err-write-clause-writes g c =
    let tables = c.args.catalog.now in
    let old = g.S.RowStore.contents c.args.store.now in
    let begins : (view : View) → ShowsRows tables old view → Settles tables old c.args.pending c.new-settling.result view = λ view shows. settles_none tables old c.args.pending c.new-settling.result view c.new-settling.ensures.rows c.new-settling.ensures.pending c.new-settling.ensures.count shows in
    then_not_written g.S.RowStore _ _ _ _ _ c.args.store.now c.stage.new.store c.write.new.store
    (λ some. (c.args.pending, some.0, begins some.0 some.1))
    (λ honest some. tt)
    (λ honest left written. made_in tables c.stage.new.settling old (g.S.RowStore.contents c.stage.new.store) left c.args.pending (Leads (edit tables c.args.name.now (asked_of c.args.row_edit.now)))
    (c.in-Ok.ensures.reads.same honest) (λ view shows. c.in-Ok.ensures.staged honest c.args.pending view (begins view shows)) written)
    (went_well g.S.RowStore _ _ _ _ _ c.in-Ok.ensures.reads)
    _ c.in-Err-write.fault _ c.from.result (was_device c.in-Err-write.fault c.from.result c.from.ensures.0) c.in-Err-write.ensures.writes
