use Rattle.std.proofs.Common.{◌≡◌, ◌-◌, ◌≤◌, ◌⊎◌, T, length, drop, fold}
use Rattle.std.specs.FinMap.{is_sorted}
use Rattle.cs_store.specs.Contents.{place_cmp}
use Rattle.cs_leaf.specs.Edits.{edited}
use Rattle.cs_map_store.specs.Leaves.{ArePatches, ReachLeaf, flat, patched, restored}
use Rattle.cs_map_store.proofs.leaves.stage_patches.Given as goal

abbrev pub invariant-loop-start : goal.invariant-loop-start
invariant-loop-start l = record {
  within : l.start ≤ length l.edits;
  long : length l.leaves.items ≡ length l.initial.leaves.items;
  places : ArePatches (length l.initial.leaves.items) l.patches.items;
  behind : drop l.from l.leaves.items ≡ drop l.from l.initial.leaves.items;
  restored : restored l.leaves.items l.patches.items ≡ l.initial.leaves.items;
  same : patched l.leaves.items l.patches.items ≡ patched l.initial.leaves.items l.patches.items;
  rest : drop l.from (patched l.initial.leaves.items l.patches.items) ≡ drop l.from l.initial.leaves.items;
  sorted : T (is_sorted place_cmp (flat (patched l.initial.leaves.items l.patches.items)));
  reach : (l.from ≡ 0) ⊎ ReachLeaf l.initial.leaves.items l.from (drop l.start l.edits);
  made : fold edited (flat (patched l.initial.leaves.items l.patches.items)) (drop l.start l.edits) ≡ fold edited (flat l.initial.leaves.items) l.edits;
}

abbrev pub decreases-loop-start : goal.decreases-loop-start
decreases-loop-start l = length l.edits - l.start
