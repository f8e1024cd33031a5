use Rattle.std.proofs.Common.{◌≡◌, ◌≤◌, ◌+◌, ◌++◌, length, map, fold}
use Rattle.std.specs.Vec.{vec_len, vec_capacity}
use Rattle.std.specs.Vec.Iter.{into_iter_items}
use Rattle.cs_map_store.specs.Slots.{shown, write_to}
use Rattle.cs_map_store.specs.Steps.{step_write, step_keys, HasSlots, IsEmptyOnlyAt}
use Rattle.cs_map_store.proofs.slots.write_steps.Given as goal

abbrev pub invariant-loop-step : goal.invariant-loop-step
invariant-loop-step l = record {
  after : fold write_to (shown l.slots.entries) (map step_write (into_iter_items l.step-iterator)) ≡ fold write_to (shown l.fn.slots.entries) (map step_write l.fn.steps.items);
  has : HasSlots l.slots (into_iter_items l.step-iterator);
  room : vec_len l.cleared + length (into_iter_items l.step-iterator) ≤ vec_capacity l.cleared;
  empty : IsEmptyOnlyAt (step_keys l.fn.steps.items) l.fn.slots → IsEmptyOnlyAt (step_keys (into_iter_items l.step-iterator) ++ l.cleared.items) l.slots;
}
