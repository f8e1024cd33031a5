use Rattle.std.proofs.Common.{◌∙◌, ◌≡◌, List, ap, arith, refl, subst, sym, take, take_all}
use Rattle.std.specs.Prelude.{Some, slice_get}
use Rattle.std.proofs.lemmas.Option.{slice_get-get_or}
use Rattle.cs_value.specs.declared.edit.Edit.{Edit}
use Rattle.cs_store.specs.Contents.{Contents}
use Rattle.cs_pending.specs.EditLists.{AreEdited}
use Rattle.cs_pending.specs.Settling.{Settles, SettlesSome}
use Rattle.cs_pending.specs.Shows.{ShowsSome}
use Rattle.cs_pending.specs.Steps.{settles_none}
use Rattle.cs_pending.specs.Storing.{no_call, only_read, then_not_written, then_well, then_written, went_well}
use Rattle.cs_pending.proofs.Staged.{made_counts, made_in, none_within}
use Rattle.cs_pending.proofs.Several.{device_of_edit, device_of_store, edited_next, refused_here}
use Rattle.cs_pending.proofs.edits.edit_rows.Goals as goal

pub loop-at-init : goal.loop-at-init
loop-at-init g c = record {
  read = no_call g.S.RowStore _ c.args.store.now;
  within = none_within c.args.catalog.now c.new-settling.result c.new-settling.ensures.rows c.new-settling.ensures.pending;
  edited = λ honest view shows. (
    view,
    refl,
    settles_none c.args.catalog.now (g.S.RowStore.contents c.args.store.now) c.args.pending c.new-settling.result view
        c.new-settling.ensures.rows c.new-settling.ensures.pending c.new-settling.ensures.count shows,
  );
}

pub loop-at-preserved : goal.loop-at-preserved
loop-at-preserved g c =
    let tables = c.args.catalog.now in
    let edits = c.args.edits.now in
    let asked = c.index-edits-at.result in
    let there : slice_get edits c.loop-at.at ≡ Some asked = slice_get-get_or edits c.loop-at.at asked (omega (arith, c.loop-at-test.true)) ∙ ap Some (sym c.index-edits-at.is) in
    let read = c.loop-at.invariant.read in
    record {
      read = then_well g.S.RowStore (ShowsSome tables (g.S.RowStore.contents c.args.store.now)) (SettlesSome tables (g.S.RowStore.contents c.loop-at.store) c.loop-at.settling) _
          c.args.store.now c.loop-at.store c.stage.new.store
          (λ some. some)
          (λ honest some.
          let so_far = c.loop-at.invariant.edited honest some.0 some.1 in
          (c.args.pending, so_far.0, subst (λ (held : Contents). Settles tables held c.args.pending c.loop-at.settling so_far.0) (sym (read.same honest)) so_far.2))
          read
          (went_well g.S.RowStore _ _ _ _ _ c.in-Ok.ensures.reads);
      within = c.in-Ok.ensures.within c.loop-at.invariant.within;
      edited = λ honest view shows.
          let was = c.in-Ok.ensures.reads.was_honest honest in
          let so_far = c.loop-at.invariant.edited was view shows in
          let settles = subst (λ (held : Contents). Settles tables held c.args.pending c.loop-at.settling so_far.0) (sym (read.same was)) so_far.2 in
          let staged = (rw (c.of.ensures.0, c.of.ensures.1) at c.in-Ok.ensures.staged) honest c.args.pending so_far.0 settles in (
            staged.0,
            edited_next tables edits view c.loop-at.at asked so_far.0 there so_far.1 staged.0 staged.1 staged.2.sound,
            subst (λ (held : Contents). Settles tables held c.args.pending c.stage.new.settling staged.0) (read.same was) staged.2,
          );
    }

pub returns-in-Err-clause-writes : goal.returns-in-Err-clause-writes
returns-in-Err-clause-writes g c =
    let tables = c.args.catalog.now in
    let read = c.loop-at.invariant.read in
    then_not_written g.S.RowStore _ _ (ShowsSome tables (g.S.RowStore.contents c.args.store.now)) (SettlesSome tables (g.S.RowStore.contents c.loop-at.store) c.loop-at.settling) _
    c.args.store.now c.loop-at.store c.stage.new.store
    (λ some. some)
    (λ honest some.
    let so_far = c.loop-at.invariant.edited honest some.0 some.1 in
    (c.args.pending, so_far.0, subst (λ (held : Contents). Settles tables held c.args.pending c.loop-at.settling so_far.0) (sym (read.same honest)) so_far.2))
    (λ honest left after. after)
    read {T = Unit {0}}
    _ c.in-Err.fault _ c.of_edit.result (λ device. device_of_edit c.loop-at.at c.in-Err.fault (sym c.of_edit.ensures ∙ device))
    (only_read g.S.RowStore _ _ _ _ c.loop-at.store c.stage.new.store c.in-Err.ensures.reads)

pub returns-in-Err-clause-refused : goal.returns-in-Err-clause-refused
returns-in-Err-clause-refused g c = λ honest view shows.
    let tables = c.args.catalog.now in
    let edits = c.args.edits.now in
    let asked = c.index-edits-at.result in
    let there : slice_get edits c.loop-at.at ≡ Some asked = slice_get-get_or edits c.loop-at.at asked (omega (arith, c.loop-at-test.true)) ∙ ap Some (sym c.index-edits-at.is) in
    let was = c.in-Err.ensures.reads.was_honest honest in
    let so_far = c.loop-at.invariant.edited was view shows in
    let settles = subst (λ (held : Contents). Settles tables held c.args.pending c.loop-at.settling so_far.0) (sym (c.loop-at.invariant.read.same was)) so_far.2 in
    let told = (rw (c.of.ensures.0, c.of.ensures.1) at c.in-Err.ensures.refused) honest c.args.pending so_far.0 settles in
    rw c.of_edit.ensures (refused_here tables edits view c.loop-at.at asked so_far.0 there so_far.1 c.in-Err.fault told)

pub returns-in-Ok-write-clause-writes : goal.returns-in-Ok-write-clause-writes
returns-in-Ok-write-clause-writes g c =
    let tables = c.args.catalog.now in
    let edits = c.args.edits.now in
    let whole : take c.loop-at.at edits ≡ edits = take_all c.loop-at.at edits (omega (arith, c.loop-at-test.false)) in
    then_written g.S.RowStore _ _ _ _ _ c.args.store.now c.loop-at.store c.write.new.store
    (λ some. some)
    (λ honest some. tt)
    (λ honest left written. made_in tables c.loop-at.settling (g.S.RowStore.contents c.args.store.now) (g.S.RowStore.contents c.loop-at.store) left c.args.pending (AreEdited tables edits)
    (c.loop-at.invariant.read.same honest)
    (λ view shows. let so_far = c.loop-at.invariant.edited honest view shows in (so_far.0, subst (λ (es : List Edit). AreEdited tables es view so_far.0) whole so_far.1, so_far.2))
    written)
    c.loop-at.invariant.read
    _ _ _ _ c.in-Ok-write.ensures.writes

pub returns-in-Ok-write-clause-counted : goal.returns-in-Ok-write-clause-counted
returns-in-Ok-write-clause-counted g c = λ honest some right.
    let tables = c.args.catalog.now in
    let edits = c.args.edits.now in
    let whole : take c.loop-at.at edits ≡ edits = take_all c.loop-at.at edits (omega (arith, c.loop-at-test.false)) in
    let was = c.in-Ok-write.ensures.writes.was_honest honest in
    c.in-Ok-write.ensures.counts
    ∙ made_counts tables c.loop-at.settling (g.S.RowStore.contents c.args.store.now) (g.S.RowStore.contents c.loop-at.store) (g.S.RowStore.contents c.write.new.store) c.args.pending (AreEdited tables edits)
    (c.loop-at.invariant.read.same was)
    (λ view shows. let so_far = c.loop-at.invariant.edited was view shows in (so_far.0, subst (λ (es : List Edit). AreEdited tables es view so_far.0) whole so_far.1, so_far.2))
    (c.in-Ok-write.ensures.writes.ok honest) some right

pub returns-in-Err-write-clause-writes : goal.returns-in-Err-write-clause-writes
returns-in-Err-write-clause-writes g c =
    let tables = c.args.catalog.now in
    let edits = c.args.edits.now in
    let whole : take c.loop-at.at edits ≡ edits = take_all c.loop-at.at edits (omega (arith, c.loop-at-test.false)) in
    then_not_written g.S.RowStore _ _ _ _ _ c.args.store.now c.loop-at.store c.write.new.store
    (λ some. some)
    (λ honest some. tt)
    (λ honest left written. made_in tables c.loop-at.settling (g.S.RowStore.contents c.args.store.now) (g.S.RowStore.contents c.loop-at.store) left c.args.pending (AreEdited tables edits)
    (c.loop-at.invariant.read.same honest)
    (λ view shows. let so_far = c.loop-at.invariant.edited honest view shows in (so_far.0, subst (λ (es : List Edit). AreEdited tables es view so_far.0) whole so_far.1, so_far.2))
    written)
    c.loop-at.invariant.read
    _ c.in-Err-write.fault _ c.from.result (device_of_store c.in-Err-write.fault c.from.result c.from.ensures.0) c.in-Err-write.ensures.writes
