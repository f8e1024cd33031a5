use Rattle.std.proofs.Common.{◌≡◌, ◌≤◌, ◌-◌, ◌++◌, [], length, drop, fold}
use Rattle.cs_leaf.specs.Edits.{edited}
use Rattle.cs_leaf.proofs.merging.merge_some.Given as goal

abbrev pub invariant-loop-at : goal.invariant-loop-at
invariant-loop-at l = record {
  row : l.row ≤ length l.leaf;
  edit : l.fn.from.1 ≤ l.at;
  within : l.at ≤ length l.edits;
  none : l.at ≡ l.fn.from.1 → l.merged ≡ [];
  merged : l.merged ++ fold edited (drop l.row l.leaf) (drop l.at l.edits) ≡ fold edited (drop l.fn.from.0 l.leaf) (drop l.fn.from.1 l.edits);
}

abbrev pub decreases-loop-at : goal.decreases-loop-at
decreases-loop-at l = length l.edits - l.at
