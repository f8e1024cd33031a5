use Rattle.std.proofs.Common.{◌≡◌, ◌+◌, [], take, take_all, refl, sym, subst, ◌∙◌, arith}
use Rattle.cs_map_store.specs.Slots.{shown}
use Rattle.cs_map_store.specs.Steps.{step_keys, HasSlots, IsEmptyOnlyAt}
use Rattle.cs_map_store.proofs.Filled.{from_none, among_steps, has_more}
use Rattle.cs_map_store.proofs.slots.make_slots.Goals as goal
use Rattle.cs_map_store.proofs.slots.make_slots.Goals.{then-is_some+in_ok-make_slot, else-is_some}

pub loop-step-init : goal.loop-step-init
loop-step-init c = record { same = refl; has = λ k d h is. absurd (omega (arith, h)); empty = from_none (step_keys c.args.steps.now) c.args.slots.now }

pub loop-step-preserved : goal.loop-step-preserved
loop-step-preserved c =
    let steps = c.args.steps.now in
    let old = c.loop-step.invariant in
    elim c.if-is_some.branch [
      | then-is_some+in_ok-make_slot w ↦ subst (λ m. record {
        same : shown m.entries ≡ shown c.args.slots.now.entries;
        has : HasSlots m (take (c.loop-step.step-index + 1) steps);
        empty : IsEmptyOnlyAt [] c.args.slots.now → IsEmptyOnlyAt (step_keys steps) m;
      }) (sym w.slots-is) (record {
        same = w.make_slot.ensures.shown ∙ old.same;
        has = has_more c.loop-step.slots w.make_slot.new.slots steps c.loop-step.step-index c.step-item.result c.loop-step-test.true c.step-item.is w.make_slot.ensures.kept (λ some. w.in_ok-make_slot.ensures.ok) old.has;
        empty = λ none. among_steps steps c.loop-step.step-index c.step-item.result w.make_slot.new.slots c.loop-step-test.true c.step-item.is (w.make_slot.ensures.empty (step_keys steps) (old.empty none));
      })
      | else-is_some w ↦ subst (λ m. record {
        same : shown m.entries ≡ shown c.args.slots.now.entries;
        has : HasSlots m (take (c.loop-step.step-index + 1) steps);
        empty : IsEmptyOnlyAt [] c.args.slots.now → IsEmptyOnlyAt (step_keys steps) m;
      }) (sym w.slots-is) (record {
        same = old.same;
        has = has_more c.loop-step.slots c.loop-step.slots steps c.loop-step.step-index c.step-item.result c.loop-step-test.true c.step-item.is (λ k h. h) (λ some. absurd (let no = sym c.is_some.ensures ∙ w.if-is_some.false in cc)) old.has;
        empty = old.empty;
      })
    ]

pub returns-in_err-make_slot-clause-empty : goal.returns-in_err-make_slot-clause-empty
returns-in_err-make_slot-clause-empty c = λ none. among_steps c.args.steps.now c.loop-step.step-index c.step-item.result c.make_slot.new.slots c.loop-step-test.true c.step-item.is
    (c.make_slot.ensures.empty (step_keys c.args.steps.now) (c.loop-step.invariant.empty none))

pub returns-clause-ok : goal.returns-clause-ok
returns-clause-ok c = subst (HasSlots c.loop-step.slots) (take_all c.loop-step.step-index c.args.steps.now c.loop-step-test.false) c.loop-step.invariant.has
