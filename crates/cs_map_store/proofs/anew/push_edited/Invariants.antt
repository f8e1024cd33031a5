use Rattle.std.proofs.Common.{◌≡◌, ◌≤◌, ◌<◌, ◌-◌, ◌++◌, length, drop, fold}
use Rattle.std.specs.List.{All}
use Rattle.cs_leaf.specs.Edits.{edited}
use Rattle.cs_map_store.specs.Leaves.{flat}
use Rattle.cs_map_store.proofs.anew.push_edited.Given as goal

abbrev pub invariant-loop-next : goal.invariant-loop-next
invariant-loop-next l = record {
  row : l.next.0 ≤ length l.leaf;
  within : l.next.1 ≤ length l.edits;
  end : l.next.1 ≡ length l.edits → l.next.0 ≡ length l.leaf;
  same : flat l.made.items ++ fold edited (drop l.next.0 l.leaf) (drop l.next.1 l.edits) ≡ flat l.initial.made.items ++ fold edited l.leaf l.edits;
  full : All (λ leaf. 0 < length leaf) l.initial.made.items → All (λ leaf. 0 < length leaf) l.made.items;
}

abbrev pub decreases-loop-next : goal.decreases-loop-next
decreases-loop-next l = length l.edits - l.next.1
