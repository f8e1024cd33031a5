use Rattle.std.proofs.Common.{◌≡◌, [], take}
use Rattle.cs_map_store.specs.Slots.{shown}
use Rattle.cs_map_store.specs.Steps.{step_keys, HasSlots, IsEmptyOnlyAt}
use Rattle.cs_map_store.proofs.slots.make_slots.Given as goal

abbrev pub invariant-loop-step : goal.invariant-loop-step
invariant-loop-step l = record {
  same : shown l.slots.entries ≡ shown l.fn.slots.entries;
  has : HasSlots l.slots (take l.step-index l.steps);
  empty : IsEmptyOnlyAt [] l.fn.slots → IsEmptyOnlyAt (step_keys l.steps) l.slots;
}
