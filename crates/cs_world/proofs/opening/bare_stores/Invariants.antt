use Rattle.std.proofs.Common.{◌≡◌, All, length}
use Rattle.cs_map_store.specs.declared.map_store.MapStore.{MapStore}
use Rattle.cs_store.specs.Contents.{nothing}
use Rattle.cs_world.proofs.opening.bare_stores.Given as goal

abbrev pub invariant-loop-number : goal.invariant-loop-number
invariant-loop-number l = record {
  bare : All (λ (store : MapStore). store.held ≡ nothing) l.stores.items;
  count : length l.stores.items ≡ l.number;
}
