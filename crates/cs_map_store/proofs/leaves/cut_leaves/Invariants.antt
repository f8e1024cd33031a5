use Rattle.std.proofs.Common.{◌≡◌, ◌+◌, ◌≤◌, ◌<◌, ◌++◌, length}
use Rattle.std.specs.List.{All}
use Rattle.std.specs.Vec.{vec_capacity, vec_len}
use Rattle.std.specs.Vec.Iter.{into_iter_items}
use Rattle.cs_map_store.specs.Leaves.{flat}
use Rattle.cs_map_store.proofs.leaves.cut_leaves.Given as goal

abbrev pub invariant-loop-leaf : goal.invariant-loop-leaf
invariant-loop-leaf l = record {
  rest : l.rest ≡ length (into_iter_items l.leaf-iterator);
  room : vec_len l.cut + l.rest ≤ vec_capacity l.cut;
  same : flat l.cut.items ++ flat (into_iter_items l.leaf-iterator) ≡ flat l.fn.leaves.items;
  full : All (λ leaf. 0 < length leaf) l.fn.leaves.items → All (λ leaf. 0 < length leaf) l.cut.items × All (λ leaf. 0 < length leaf) (into_iter_items l.leaf-iterator);
}
