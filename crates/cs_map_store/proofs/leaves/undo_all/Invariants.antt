use Rattle.std.proofs.Common.{◌≡◌, length}
use Rattle.cs_map_store.specs.Leaves.{ArePatches, restored}
use Rattle.cs_map_store.proofs.leaves.undo_all.Given as goal

abbrev pub invariant-loop-patch : goal.invariant-loop-patch
invariant-loop-patch l = record {
  places : ArePatches (length l.leaves.items) l.patches.items;
  left : restored l.leaves.items l.patches.items ≡ restored l.fn.leaves.items l.fn.patches.items;
}

abbrev pub decreases-loop-patch : goal.decreases-loop-patch
decreases-loop-patch l = goal.left-loop-patch l
