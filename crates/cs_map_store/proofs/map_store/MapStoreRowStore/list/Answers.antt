use Rattle.std.proofs.Common.{subst}
use Rattle.cs_map_store.specs.Slots.{InMemory}
use Rattle.cs_store.specs.Contents.{IsListing, stored_tables}
use Rattle.cs_store.specs.Written.{pairs_of}
use Rattle.cs_map_store.proofs.map_store.MapStoreRowStore.list.Goals as goal

pub returns-clause-listed : goal.returns-clause-listed
returns-clause-listed c = λ _. subst (λ (store : InMemory). IsListing (stored_tables store.held c.args.table) (pairs_of c.in_ok-rows.rows.items)) c.self.view_is c.in_ok-rows.ensures
