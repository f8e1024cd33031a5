use Rattle.std.proofs.Common.{◌≡◌, ◌<◌, false, length}
use Rattle.std.specs.List.{All}
use Rattle.std.specs.Vec.Iter.{into_iter_items}
use Rattle.cs_map_store.specs.Leaves.{ArePatches, patched}
use Rattle.cs_map_store.specs.declared.leaves.Patch.{Patch}
use Rattle.cs_map_store.proofs.leaves.write_patches.Given as goal

abbrev pub invariant-loop-patch : goal.invariant-loop-patch
invariant-loop-patch l = record {
  places : ArePatches (length l.leaves.items) (into_iter_items l.patch-iterator);
  made : patched l.leaves.items (into_iter_items l.patch-iterator) ≡ patched l.fn.leaves.items l.fn.patches.items;
  full : l.uneven.has_empty ≡ false → All (λ (patch : Patch). 0 < length patch.change.1) (into_iter_items l.patch-iterator) → All (λ (patch : Patch). 0 < length patch.change.1) l.fn.patches.items;
}
