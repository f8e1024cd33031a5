use Rattle.std.proofs.Common.{◌≡◌, ◌-◌, ◌≤◌, ◌<◌, length, take}
use Rattle.std.specs.List.{All}
use Rattle.cs_map_store.specs.Leaves.{flat}
use Rattle.cs_map_store.proofs.leaves.pieces_of.Given as goal

abbrev pub invariant-loop-from : goal.invariant-loop-from
invariant-loop-from l = (l.from ≤ length l.leaf) × (flat l.pieces.items ≡ take l.from l.leaf) × All (λ piece. 0 < length piece) l.pieces.items

abbrev pub decreases-loop-from : goal.decreases-loop-from
decreases-loop-from l = length l.leaf - l.from
