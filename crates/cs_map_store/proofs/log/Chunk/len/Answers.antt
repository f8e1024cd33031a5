use Rattle.std.proofs.Common.{◌∙◌, length, ap, sym}
use Rattle.cs_map_store.specs.Packed.{PackedItems}
use Rattle.cs_map_store.proofs.Packing.{items_long}
use Rattle.cs_map_store.proofs.log.Chunk.len.Goals as goal

pub returns : goal.returns
returns c = c.len.ensures ∙ c.self.inside.spots.ok.0 ∙ sym (items_long c.self.inside.bytes.items c.self.inside.spots.items 0) ∙ ap (λ (chunk : PackedItems). length chunk.items) c.self.view_is
