use Rattle.std.proofs.Common.{refl, ap, ◌∙◌}
use Rattle.cs_store.specs.Contents.{log_range}
use Rattle.cs_map_store.specs.Slots.{InMemory, held_in}
use Rattle.cs_map_store.proofs.Ranging.{range_is}
use Rattle.cs_map_store.proofs.map_store.MapStoreRowStore.log_list.Goals as goal

pub returns-clause-listed : goal.returns-clause-listed
returns-clause-listed c = λ _.
    let was = c.self.inside in
    let first = c.args.first in
    let count = c.args.count in
    c.in_ok-entries.ensures
    ∙ range_is (held_in was.shelves.rows was.shelves.pending was.slots.entries was.log.items) was.log.items refl count first
    ∙ ap (λ (store : InMemory). log_range store.held first count) c.self.view_is
