use Rattle.std.proofs.Common.{refl, sym, subst, IsSome, ap, ◌∙◌, ◌∷◌}
use Rattle.std.specs.BTreeMap.{BTreeMap}
use Rattle.cs_map_store.specs.Slots.{SlotKey, Slot, shown}
use Rattle.cs_map_store.specs.Steps.{left_empty, IsEmptyOnlyAt}
use Rattle.cs_map_store.proofs.Filled.{left_written, left_unwritten}
use Rattle.cs_map_store.proofs.Changing.{written_shown, kept_by, unwritten_shown}
use Rattle.cs_map_store.proofs.slots.write_slot.Goals as goal

pub returns-in-Some-clause-shown : goal.returns-in-Some-clause-shown
returns-in-Some-clause-shown c = written_shown c.args.slots.now (c.get_mut.follows.lender c.args.value) c.args.key.now c.args.value ((c.get_mut.follows.holds c.args.value).3 (subst IsSome c.in-Some.ensures.value refl))

pub returns-in-Some-clause-kept : goal.returns-in-Some-clause-kept
returns-in-Some-clause-kept c = kept_by c.args.slots.now (c.get_mut.follows.lender c.args.value) c.args.key.now c.args.value ((c.get_mut.follows.holds c.args.value).3 (subst IsSome c.in-Some.ensures.value refl))

pub returns-in_default-clause-shown : goal.returns-in_default-clause-shown
returns-in_default-clause-shown c = ap (λ (m : BTreeMap SlotKey Slot). shown m.entries) c.get_mut.follows.holds-at-none ∙ unwritten_shown c.args.slots.now c.args.key.now c.args.value c.in_default.ensures.value c.requires

pub returns-in-Some-clause-empty : goal.returns-in-Some-clause-empty
returns-in-Some-clause-empty c = λ ks. left_written ks c.args.slots.now (c.get_mut.follows.lender c.args.value) c.args.key.now c.args.value ((c.get_mut.follows.holds c.args.value).3 (subst IsSome c.in-Some.ensures.value refl))

pub returns-in_default-clause-empty : goal.returns-in_default-clause-empty
returns-in_default-clause-empty c = λ ks. subst (λ (m : BTreeMap SlotKey Slot). IsEmptyOnlyAt (c.args.key.now ∷ ks) c.args.slots.now → IsEmptyOnlyAt (left_empty c.args.value c.args.key.now ks) m) (sym c.get_mut.follows.holds-at-none)
    (left_unwritten ks c.args.slots.now c.args.key.now c.args.value c.in_default.ensures.value)
