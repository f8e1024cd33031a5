use Rattle.cs_order.specs.Order.{keys_behind}
use Rattle.cs_normal.proofs.Placed.{grouped}
use Rattle.cs_normal.proofs.name_places.NamePlaces.new.Goals as goal

pub invariant_of-result : goal.invariant_of-result
invariant_of-result c =
    let group = rw c.as_slice.ensures.value at c.in_ok-places.ensures in
    let once = rw c.as_slice-2.ensures.value at c.in_ok-once.ensures in
    grouped (keys_behind c.args.names.items) c.in_ok-once.once c.in_ok-places.places group once
