use Rattle.std.proofs.Common.{ap, sym, ◌∙◌}
use Rattle.cs_store.specs.Contents.{log_count}
use Rattle.cs_map_store.specs.Slots.{InMemory}
use Rattle.cs_map_store.proofs.Numbered.{log_len}
use Rattle.cs_map_store.proofs.map_store.MapStoreRowStore.log_len.Goals as goal

pub returns-clause-counted : goal.returns-clause-counted
returns-clause-counted c = λ _. c.len.ensures ∙ sym (log_len c.self.inside.log.items) ∙ ap (λ (store : InMemory). log_count store.held) c.self.view_is
