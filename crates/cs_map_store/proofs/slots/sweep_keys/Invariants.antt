use Rattle.std.proofs.Common.{◌≡◌, drop}
use Rattle.cs_map_store.specs.Slots.{shown}
use Rattle.cs_map_store.specs.Steps.{IsEmptyOnlyAt}
use Rattle.cs_map_store.proofs.slots.sweep_keys.Given as goal

abbrev pub invariant-loop-key : goal.invariant-loop-key
invariant-loop-key l = record {
  same : shown l.slots.entries ≡ shown l.fn.slots.entries;
  empty : IsEmptyOnlyAt l.keys l.fn.slots → IsEmptyOnlyAt (drop l.key-index l.keys) l.slots;
}
