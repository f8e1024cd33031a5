use Rattle.std.proofs.Common.{List, ◌∙◌, refl, sym, subst, ap}
use Rattle.cs_normal.specs.declared.normal.TableChanges.{TableChanges}
use Rattle.cs_store.specs.Written.{after_batch}
use Rattle.cs_opening.specs.copying.Copied.{HoldsRowsAlone}
use Rattle.cs_opening.specs.Opens.{StandsAt}
use Rattle.cs_opening.specs.moving.Moved.{moved}
use Rattle.cs_opening.proofs.MovingLemmas.Planned.{holds_alone, kept, never, one_read, planned}
use Rattle.cs_opening.proofs.moving.planning.plan_move.Goals as goal

pub returns-in-Ok-None-clause-none : goal.returns-in-Ok-None-clause-none
returns-in-Ok-None-clause-none g c = λ honest none changes position keeps stands.
    absurd (let no = (rw c.in-Ok-None.field-0-is at c.in-Ok-None.ensures.only) honest changes (kept c.args.catalog.now c.args.id (g.S.RowStore.contents c.args.store.now) changes position keeps stands) in cc)

pub returns-in-Ok-None-copy_of-clause-none : goal.returns-in-Ok-None-copy_of-clause-none
returns-in-Ok-None-copy_of-clause-none g c = λ honest none changes position keeps stands.
    let was = c.in-Ok-None-copy_of.ensures.reads.was_honest honest in
    (rw c.in-Ok-None-copy_of.field-0-is at c.in-Ok-None-copy_of.ensures.none) honest refl
    (subst (HoldsRowsAlone c.args.catalog.now) (sym (c.in-Ok-Some.ensures.reads.same was))
    (holds_alone c.args.catalog.now c.args.id (g.S.RowStore.contents c.args.store.now) c.shown_is_whole.ensures c.tables.ensures.tables changes position keeps stands))

pub moving_batch-requires : goal.moving_batch-requires
moving_batch-requires g c = rw c.in-Ok-Some.field-0-is at c.in-Ok-Some.ensures.fits

pub returns-in-Ok-Some-position_in-clause-planned : goal.returns-in-Ok-Some-position_in-clause-planned
returns-in-Ok-Some-position_in-clause-planned g c = λ honest.
    let was = c.in-Ok-Some-copy_of.ensures.reads.was_honest honest in
    let same = c.in-Ok-Some.ensures.reads.same was in
    let copied = (rw c.in-Ok-Some-copy_of.field-0-is at c.in-Ok-Some-copy_of.ensures.copied) honest in
    planned c.args.catalog.now c.args.id (g.S.RowStore.contents c.args.store.now) c.in-Ok-Some.changes c.in-Ok-Some-position_in.position c.in_ok-batch.batch _ _
    ((rw c.in-Ok-Some.field-0-is at c.in-Ok-Some.ensures.found) was) (subst (HoldsRowsAlone c.args.catalog.now) same copied.0) c.in_ok-batch.ensures
    (c.in-Ok.ensures.commits.ok tt ∙ ap (after_batch c.in_ok-batch.batch) (copied.1 ∙ same))
    (rw c.in-Ok-Some-position_in.field-0-is at c.in-Ok-Some-position_in.ensures.found)

pub returns-in-Ok-None-position_in-clause-none : goal.returns-in-Ok-None-position_in-clause-none
returns-in-Ok-None-position_in-clause-none g c = λ honest none changes position keeps stands.
    let was = c.in-Ok-Some-copy_of.ensures.reads.was_honest honest in
    let same = c.in-Ok-Some.ensures.reads.same was in
    let old = g.S.RowStore.contents c.args.store.now in
    let copied = (rw c.in-Ok-Some-copy_of.field-0-is at c.in-Ok-Some-copy_of.ensures.copied) honest in
    let one = one_read c.in-Ok-Some.changes changes ((rw c.in-Ok-Some.field-0-is at c.in-Ok-Some.ensures.only) was changes (kept c.args.catalog.now c.args.id old changes position keeps stands)) in
    let told = (rw c.in-Ok-None-position_in.field-0-is at c.in-Ok-None-position_in.ensures.none) refl in
    never c.args.catalog.now c.args.id old c.openings.ensures.opened c.tables.ensures.tables (rw c.tables.ensures.same at c.are_named.ensures) c.in-Ok-Some.changes position c.in_ok-batch.batch _
    ((rw c.in-Ok-Some.field-0-is at c.in-Ok-Some.ensures.found) was) c.in_ok-batch.ensures
    (c.in-Ok.ensures.commits.ok tt ∙ ap (after_batch c.in_ok-batch.batch) (copied.1 ∙ same))
    told (subst (λ (cs : List TableChanges). StandsAt c.args.catalog.now c.args.id (moved c.args.catalog.now cs old) position) (sym one) stands)
