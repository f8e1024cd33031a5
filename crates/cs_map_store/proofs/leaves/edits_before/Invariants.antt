use Rattle.std.proofs.Common.{◌≡◌, ◌-◌, ◌≤◌, ◌<◌, Some, length, take}
use Rattle.std.specs.List.{slice_get}
use Rattle.cs_store.specs.edits.Edits.{BodyEdit}
use Rattle.cs_leaf.specs.Edits.{Rise, store_place}
use Rattle.cs_map_store.specs.Leaves.{AreBefore}
use Rattle.cs_map_store.proofs.leaves.edits_before.Given as goal

abbrev pub invariant-loop-count : goal.invariant-loop-count
invariant-loop-count l = record {
  some : 0 < l.count;
  within : l.count ≤ length l.edits;
  before : AreBefore l.leaves l.next (take l.count l.edits);
  rise : Rise (take l.count l.edits);
  last : (edit : BodyEdit) × (slice_get l.edits (l.count - 1) ≡ Some edit) × (l.last ≡ store_place edit);
}

abbrev pub decreases-loop-count : goal.decreases-loop-count
decreases-loop-count l = length l.edits - l.count
