use Rattle.std.proofs.Common.{refl, subst}
use Rattle.cs_store.specs.Contents.{HasEachEntry}
use Rattle.cs_map_store.specs.Slots.{InMemory, held_in}
use Rattle.cs_map_store.proofs.Ranging.{each_is_there}
use Rattle.cs_map_store.proofs.map_store.MapStoreRowStore.log_is_whole.Goals as goal

pub returns-clause-told : goal.returns-clause-told
returns-clause-told c = λ _.
    let was = c.self.inside in (
      λ _. subst (λ (store : InMemory). HasEachEntry store.held) c.self.view_is
          (each_is_there (held_in was.shelves.rows was.shelves.pending was.slots.entries was.log.items) was.log.items refl),
      λ _. refl,
    )
