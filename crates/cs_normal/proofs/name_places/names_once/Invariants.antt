use Rattle.std.proofs.Common.{◌≡◌, map, take}
use Rattle.cs_order.specs.Order.{keys_behind}
use Rattle.cs_normal.specs.Placed.{name_first}
use Rattle.cs_normal.proofs.name_places.names_once.Given as goal

abbrev pub invariant-loop-at : goal.invariant-loop-at
invariant-loop-at l = l.once ≡ map (name_first (keys_behind l.names)) (take l.at l.places)
