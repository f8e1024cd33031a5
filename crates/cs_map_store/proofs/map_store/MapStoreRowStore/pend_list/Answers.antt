use Rattle.std.proofs.Common.{subst}
use Rattle.cs_map_store.specs.Slots.{InMemory}
use Rattle.cs_store.specs.Contents.{IsListing, stored_pending}
use Rattle.cs_store.specs.Written.{pairs_of}
use Rattle.cs_map_store.proofs.map_store.MapStoreRowStore.pend_list.Goals as goal

pub returns-clause-listed : goal.returns-clause-listed
returns-clause-listed c = λ _. subst (λ (store : InMemory). IsListing (stored_pending store.held c.args.table) (pairs_of c.in_ok-changes.changes.items)) c.self.view_is c.in_ok-changes.ensures
