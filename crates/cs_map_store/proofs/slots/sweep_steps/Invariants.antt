use Rattle.std.proofs.Common.{◌≡◌, drop}
use Rattle.cs_map_store.specs.Slots.{shown}
use Rattle.cs_map_store.specs.Steps.{step_keys, IsEmptyOnlyAt}
use Rattle.cs_map_store.proofs.slots.sweep_steps.Given as goal

abbrev pub invariant-loop-step : goal.invariant-loop-step
invariant-loop-step l = record {
  same : shown l.slots.entries ≡ shown l.fn.slots.entries;
  empty : IsEmptyOnlyAt (step_keys l.steps) l.fn.slots → IsEmptyOnlyAt (step_keys (drop l.step-index l.steps)) l.slots;
}
