use Rattle.std.proofs.Common.{◌≡◌, ◌≤◌, ◌++◌, length, drop, fold}
use Rattle.cs_leaf.specs.Edits.{edited}
use Rattle.cs_leaf.proofs.merging.merged.Given as goal

abbrev pub invariant-loop-at : goal.invariant-loop-at
invariant-loop-at l =
    (l.from ≤ length l.leaf)
    × (l.room ++ fold edited (drop l.from l.leaf) (drop l.at l.edits) ≡ fold edited l.leaf l.edits)
