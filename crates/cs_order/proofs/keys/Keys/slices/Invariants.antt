use Rattle.std.proofs.Common.{◌≡◌, map, take}
use Rattle.std.specs.List.{slice_range}
use Rattle.cs_order.specs.Order.{keys_behind}
use Rattle.cs_order.proofs.keys.Keys.slices.Given as goal

abbrev pub invariant-loop-spot : goal.invariant-loop-spot
invariant-loop-spot l = keys_behind l.keys.items ≡ map (λ spot. slice_range l.self-inside.bytes.items spot.0 spot.1) (take l.spot-index l.spot-items)
