use Rattle.std.proofs.Common.{◌≡◌, map, take}
use Rattle.cs_map_store.specs.Slots.{meta_write}
use Rattle.cs_map_store.specs.Steps.{step_write}
use Rattle.cs_map_store.proofs.slots.steps_of.Given as goal

abbrev pub invariant-loop-edit : goal.invariant-loop-edit
invariant-loop-edit l = map step_write l.steps.items ≡ map meta_write (take l.edit-index l.batch.meta.items)
