use Rattle.std.proofs.Common.{◌≡◌, map, take}
use Rattle.std.specs.Prelude.{slice_index}
use Rattle.cs_order.specs.Order.{key_at}
use Rattle.cs_normalising.proofs.lent_table.pick_keys.Given as goal

abbrev pub invariant-loop-at : goal.invariant-loop-at
invariant-loop-at l = record {
  keys : l.picked.0 ≡ l.fn.keys;
  picked : l.picked.1 ≡ map (λ at. key_at l.fn.keys (slice_index l.fn.order at)) (take l.at-index l.places);
}
