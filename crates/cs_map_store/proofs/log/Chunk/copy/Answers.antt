use Rattle.std.proofs.Common.{rules, ◌≡◌, ◌<◌, ◌∙◌, List, length, get_or, ap, sym, arith}
use Rattle.std.specs.Prelude.{pos}
use Rattle.cs_store.specs.Contents.{LogItem}
use Rattle.cs_map_store.specs.declared.log.EntrySpot.{EntrySpot}
use Rattle.cs_map_store.specs.Packed.{PackedItems, item_in, no_item, nth_item, start_at}
use Rattle.cs_map_store.proofs.Packing.{items_long, no_spot, nth_in}
use Rattle.cs_map_store.proofs.log.Chunk.copy.Goals as goal

pub offset_bounds-as_slice-at : goal.offset_bounds-as_slice-at
offset_bounds-as_slice-at c =
    let long = items_long c.self.inside.bytes.items c.self.inside.spots.items 0 ∙ sym (ap length c.as_slice.ensures.value) in
    let same = ap (λ (chunk : PackedItems). length chunk.items) c.self.view_is in
    let less : c.args.at < length c.as_slice.result.now = omega (arith, long, same) in
    search rules

pub bounds-as_slice-at : goal.bounds-as_slice-at
bounds-as_slice-at c =
    let long = items_long c.self.inside.bytes.items c.self.inside.spots.items 0 ∙ sym (ap length c.as_slice.ensures.value) in
    let same = ap (λ (chunk : PackedItems). length chunk.items) c.self.view_is in
    omega (arith, long, same)

pub returns : goal.returns
returns c =
    let was = c.self.inside in
    let at = c.args.at in
    let item = nth_item c.args.self.now.items at in
    let long = items_long was.bytes.items was.spots.items 0 in
    let same = ap (λ (chunk : PackedItems). length chunk.items) c.self.view_is in
    let stands : item_in was.bytes.items (start_at 0 was.spots.items at) (get_or was.spots.items at no_spot) ≡ item =
    sym (nth_in was.bytes.items was.spots.items 0 at no_spot no_item (omega (arith, long, same))) ∙ ap (λ (chunk : PackedItems). nth_item chunk.items at) c.self.view_is in
    let origin : pos (get_or c.as_slice.result.now at no_spot).origin ≡ item.origin =
    ap (λ (ss : List EntrySpot). pos (get_or ss at no_spot).origin) c.as_slice.ensures.value ∙ ap (λ (x : LogItem). x.origin) stands in
    let number : (get_or c.as_slice.result.now at no_spot).number ≡ item.number =
    ap (λ (ss : List EntrySpot). (get_or ss at no_spot).number) c.as_slice.ensures.value ∙ ap (λ (x : LogItem). x.number) stands in
    let body : c.in_ok-body.body.items ≡ item.body = c.in_ok-body.ensures.items ∙ c.body.ensures in
    λ i. record { origin = origin i; number = number i; body = body i }
