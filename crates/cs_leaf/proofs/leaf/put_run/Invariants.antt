use Rattle.std.proofs.Common.{◌≡◌, ◌++◌, ◌+◌, ◌-◌, ◌≤◌, length, map, take}
use Rattle.std.specs.Vec.{vec_len, vec_capacity}
use Rattle.cs_leaf.specs.Entries.{shifted}
use Rattle.cs_leaf.proofs.leaf.put_run.Given as goal

abbrev pub invariant-loop-at : goal.invariant-loop-at
invariant-loop-at l = record {
  items : l.spots.items ≡ l.initial.spots.items ++ map (λ s. shifted s l.start l.held) (take l.at l.run);
  room : vec_len l.spots + (length l.run - l.at) ≤ vec_capacity l.spots;
}
