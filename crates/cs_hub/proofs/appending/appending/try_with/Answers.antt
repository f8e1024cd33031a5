use Rattle.std.proofs.Common.{ap, ◌∙◌, Err}
use Rattle.std.specs.Fn.{CalledAt}
use Rattle.cs_hub.proofs.AppendingLemmas.Tries as tries
use Rattle.cs_hub.proofs.appending.appending.try_with.Goals as goal

pub returns-in-Ok-clause-reads : goal.returns-in-Ok-clause-reads
returns-in-Ok-clause-reads g c =
    tries.went_on g.S.RowStore _ c.args.store.now c.apply.new.store
    c.in-Ok.ensures.read_rightly _ _ c.in-Ok.ensures.reads

pub returns-in-Ok-clause-made : goal.returns-in-Ok-clause-made
returns-in-Ok-clause-made g c = λ honest before holds.
    let carried = rw c.in_ok-changeset.ensures.lent at c.in-Ok.ensures.applied in
    tries.tried (CalledAt g.H.FnMut) _ _ _ before _ _ c.requires.aborts c.tables-changes.ensures.normal c.requires.fits c.aborting_tries.ensures.applied c.in-Ok.applied (carried honest before holds)

pub returns-in-Err-Aborted-clause-reads : goal.returns-in-Err-Aborted-clause-reads
returns-in-Err-Aborted-clause-reads g c =
    tries.gave_up g.S.RowStore _ c.args.store.now c.apply.new.store
    c.in-Err-Aborted.ensures.read_rightly _ _ (λ e. absurd (let no = e in cc)) c.in-Err-Aborted.ensures.reads

pub returns-in-Err-Aborted-clause-refused : goal.returns-in-Err-Aborted-clause-refused
returns-in-Err-Aborted-clause-refused g c = λ honest before holds.
    let told = rw c.in_ok-changeset.ensures.lent at c.in-Err-Aborted.ensures.refused in
    tries.aborted (CalledAt g.H.FnMut) _ _ (g.S.RowStore.contents c.args.store.now) before _ _ c.requires.aborts c.tables-changes.ensures.normal c.requires.fits c.aborting_tries.ensures.refused _ _ c.in-Err-Aborted.field-0-is (told honest before holds)

pub returns-in-Err-Misuse-clause-reads : goal.returns-in-Err-Misuse-clause-reads
returns-in-Err-Misuse-clause-reads g c =
    tries.gave_up g.S.RowStore _ c.args.store.now c.apply.new.store
    c.in-Err-Misuse.ensures.read_rightly _ _ (λ e. absurd (let no = e in cc)) c.in-Err-Misuse.ensures.reads

pub returns-in-Err-Misuse-clause-refused : goal.returns-in-Err-Misuse-clause-refused
returns-in-Err-Misuse-clause-refused g c = λ honest before holds.
    let told = rw c.in_ok-changeset.ensures.lent at c.in-Err-Misuse.ensures.refused in
    tries.misused (CalledAt g.H.FnMut) _ _ (g.S.RowStore.contents c.args.store.now) before _ _ c.requires.aborts c.tables-changes.ensures.normal c.requires.fits c.aborting_tries.ensures.refused _ _ c.in-Err-Misuse.field-0-is (told honest before holds)

pub returns-in-Err-Device-clause-reads : goal.returns-in-Err-Device-clause-reads
returns-in-Err-Device-clause-reads g c =
    tries.gave_up g.S.RowStore _ c.args.store.now c.apply.new.store
    c.in-Err-Device.ensures.read_rightly _ _ (λ e. c.in-Err-Device.field-0-is) c.in-Err-Device.ensures.reads

pub returns-in-Err-Memory-clause-reads : goal.returns-in-Err-Memory-clause-reads
returns-in-Err-Memory-clause-reads g c =
    tries.gave_up g.S.RowStore _ c.args.store.now c.apply.new.store
    c.in-Err-Memory.ensures.read_rightly _ _ (λ e. absurd (let no = e in cc)) c.in-Err-Memory.ensures.reads

pub unreachable-requires : goal.unreachable-requires
unreachable-requires g c =
    let told = rw c.in_ok-changeset.ensures.lent at c.apply.ensures.keyed in
    let no = told (c.in-Err-NullKey.is ∙ ap (λ x. Err x) c.in-Err-NullKey.field-0-is) in
    let yes = tries.keyed c.args.catalog.now c.args.changes.now c.tables-changes.ensures.normal c.requires.fits in cc
