use Rattle.std.proofs.Common.{ap, ◌∙◌}
use Rattle.cs_store.specs.Contents.{name_text, meta_value}
use Rattle.cs_map_store.specs.Slots.{InMemory, shown}
use Rattle.cs_map_store.proofs.Holding.{meta_found}
use Rattle.cs_map_store.proofs.map_store.MapStoreRowStore.meta.Goals as goal

pub returns-clause-found : goal.returns-clause-found
returns-clause-found c = λ _. c.in_ok-value.ensures
    ∙ meta_found (shown c.self.inside.slots.entries) c.in_ok-from_slice.field-0.items (name_text c.args.name) (c.in_ok-from_slice.ensures.items ∙ c.as_bytes.ensures.value ∙ c.text.ensures)
    ∙ ap (λ (store : InMemory). meta_value store.held c.args.name) c.self.view_is
