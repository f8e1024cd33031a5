use Rattle.std.proofs.Common.{◌≡◌, ◌+◌, ℕ, All, Some, length, slice_get}
use Rattle.std.specs.Vec.Iter.{into_iter_items}
use Rattle.cs_replica.specs.Holding.{Holding}
use Rattle.cs_store.specs.Contents.{nothing}
use Rattle.cs_world.specs.Opened.{IsNewReplica}
use Rattle.cs_world.proofs.world.World.new.Given as goal

abbrev pub invariant-loop-store : goal.invariant-loop-store
invariant-loop-store g l = record {
  news : (r : ℕ) (one : Holding g.row.S.Denot) → slice_get l.opened.items r ≡ Some one → IsNewReplica g.S.RowStore l.fn.catalog r one;
  bare : All (λ store. g.S.RowStore.contents store ≡ nothing) (into_iter_items l.store-iterator);
  counted : length l.opened.items + length (into_iter_items l.store-iterator) ≡ length l.fn.replicas.items;
}
