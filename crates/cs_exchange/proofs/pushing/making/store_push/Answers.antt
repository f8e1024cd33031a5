use Rattle.std.proofs.Common.{subst, sym}
use Rattle.cs_pending.specs.Shows.{ShowsRows}
use Rattle.cs_pending.specs.Storing.{committed, not_committed, then_not_written, then_written, went_well}
use Rattle.cs_pending.specs.position.Shows.{ShowsAt, ShowsSomeAt}
use Rattle.cs_exchange.specs.pushing.Pushes.{IsPushMade, IsPushMadeIn}
use Rattle.cs_exchange.proofs.PushingLemmas.Pushed.{made_in, push_made, was_device}
use Rattle.cs_store.specs.Contents.{Contents}
use Rattle.cs_store.specs.declared.fault.StoreFault.TheVariants as stored
use Rattle.cs_exchange.proofs.pushing.making.store_push.Goals as goal

pub returns-in-Ok-commit-clause-writes : goal.returns-in-Ok-commit-clause-writes
returns-in-Ok-commit-clause-writes g c =
    then_written g.S.RowStore
    (IsPushMadeIn c.args.catalog.now c.args.position.now (g.S.RowStore.contents c.outgoing.new.store)) _ _ (ShowsSomeAt c.args.catalog.now c.args.position.now (g.S.RowStore.contents c.outgoing.new.store)) _ c.args.store.now c.outgoing.new.store c.commit.new.self
    (λ some. (some.0, some.1.rows))
    (λ honest some. subst (λ (left : Contents). ShowsSomeAt c.args.catalog.now c.args.position.now left) (sym (c.in-Ok.ensures.reads.same honest)) some)
    (λ honest after made. subst (λ (old : Contents). IsPushMadeIn c.args.catalog.now c.args.position.now old after) (c.in-Ok.ensures.reads.same honest) made)
    (went_well g.S.RowStore _ _ _ _ _ c.in-Ok.ensures.reads)
    stored.Device _ _ _
    (committed g.S.RowStore stored.Device _ _ _ c.outgoing.new.store c.commit.new.self _ c.in-Ok-commit.field-0
    (λ honest. made_in c.args.catalog.now (g.S.RowStore.contents c.outgoing.new.store) c.in_ok-batch.batch c.args.position.now c.in-Ok.changes (rw c.tables-tables.ensures.same at c.in_ok-batch.ensures) c.commit_shows.ensures c.commits.ensures.pending c.commits.ensures.other_pending c.requires
    (λ view shows. c.in-Ok.ensures.gathered honest view (subst (λ (left : Contents). ShowsRows c.args.catalog.now left view) (c.in-Ok.ensures.reads.same honest) shows)))
    c.in-Ok-commit.ensures)

pub returns-in-Err-commit-clause-writes : goal.returns-in-Err-commit-clause-writes
returns-in-Err-commit-clause-writes g c =
    then_not_written g.S.RowStore
    (IsPushMadeIn c.args.catalog.now c.args.position.now (g.S.RowStore.contents c.outgoing.new.store)) _ _ (ShowsSomeAt c.args.catalog.now c.args.position.now (g.S.RowStore.contents c.outgoing.new.store)) _ c.args.store.now c.outgoing.new.store c.commit.new.self
    (λ some. (some.0, some.1.rows))
    (λ honest some. subst (λ (left : Contents). ShowsSomeAt c.args.catalog.now c.args.position.now left) (sym (c.in-Ok.ensures.reads.same honest)) some)
    (λ honest after made. subst (λ (old : Contents). IsPushMadeIn c.args.catalog.now c.args.position.now old after) (c.in-Ok.ensures.reads.same honest) made)
    (went_well g.S.RowStore _ _ _ _ _ c.in-Ok.ensures.reads)
    {T = Unit {0}} stored.Device c.in-Err-commit.fault _ c.from.result (was_device c.in-Err-commit.fault c.from.result c.from.ensures.0)
    (not_committed g.S.RowStore c.in-Err-commit.fault _ _ _ c.outgoing.new.store c.commit.new.self
    (λ honest. made_in c.args.catalog.now (g.S.RowStore.contents c.outgoing.new.store) c.in_ok-batch.batch c.args.position.now c.in-Ok.changes (rw c.tables-tables.ensures.same at c.in_ok-batch.ensures) c.commit_shows.ensures c.commits.ensures.pending c.commits.ensures.other_pending c.requires
    (λ view shows. c.in-Ok.ensures.gathered honest view (subst (λ (left : Contents). ShowsRows c.args.catalog.now left view) (c.in-Ok.ensures.reads.same honest) shows)))
    c.in-Err-commit.ensures)

pub returns-in-Ok-commit-clause-made : goal.returns-in-Ok-commit-clause-made
returns-in-Ok-commit-clause-made g c = λ honest view shows.
    let mid = c.commit.ensures.was_honest honest in
    let now = subst (λ (left : Contents). ShowsAt c.args.catalog.now left c.args.position.now view) (sym (c.in-Ok.ensures.reads.same mid)) shows in
    subst (λ (left : Contents). IsPushMade c.args.catalog.now c.args.position.now view left c.in-Ok.changes) (sym (c.in-Ok-commit.ensures.ok honest))
    (push_made c.args.catalog.now (g.S.RowStore.contents c.outgoing.new.store) c.in_ok-batch.batch c.args.position.now c.in-Ok.changes (rw c.tables-tables.ensures.same at c.in_ok-batch.ensures) c.commit_shows.ensures c.commits.ensures.pending c.commits.ensures.other_pending c.requires
    view now (c.in-Ok.ensures.gathered mid view shows.rows))
