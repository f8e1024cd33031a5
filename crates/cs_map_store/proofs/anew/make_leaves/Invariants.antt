use Rattle.std.proofs.Common.{◌≡◌, ◌≤◌, ◌<◌, ◌⊎◌, ◌++◌, [], T, length, drop, fold}
use Rattle.std.specs.List.{All}
use Rattle.std.specs.FinMap.{is_sorted}
use Rattle.cs_store.specs.Contents.{place_cmp}
use Rattle.cs_leaf.specs.Edits.{edited}
use Rattle.cs_map_store.specs.Leaves.{ReachLeaf, flat}
use Rattle.cs_map_store.proofs.anew.make_leaves.Given as goal

abbrev pub invariant-loop-at : goal.invariant-loop-at
invariant-loop-at l = record {
  within : l.start ≤ length l.edits;
  full : All (λ leaf. 0 < length leaf) l.made.items;
  none : l.at ≡ 0 → flat l.made.items ≡ [];
  sorted : T (is_sorted place_cmp (flat l.made.items ++ flat (drop l.at l.leaves)));
  reach : (l.at ≡ 0) ⊎ ReachLeaf l.leaves l.at (drop l.start l.edits);
  made : fold edited (flat l.made.items ++ flat (drop l.at l.leaves)) (drop l.start l.edits) ≡ fold edited (flat l.leaves) l.edits;
}
