use Rattle.std.proofs.Common.{rules, ◌≡◌, ◌<◌, ◌∙◌, ℕ, List, length, get_or, ap, sym, subst, arith}
use Rattle.std.specs.List.{slice_range}
use Rattle.cs_store.specs.Contents.{LogItem}
use Rattle.cs_map_store.specs.declared.log.EntrySpot.{EntrySpot}
use Rattle.cs_map_store.specs.Packed.{PackedItems, AreSpots, no_item, nth_item, start_at}
use Rattle.cs_map_store.proofs.Packing.{body_within, items_long, no_spot, nth_in}
use Rattle.cs_map_store.proofs.log.Chunk.body.Goals as goal

pub start_of-requires : goal.start_of-requires
start_of-requires c =
    let long = items_long c.self.inside.bytes.items c.self.inside.spots.items 0 ∙ sym (ap length c.as_slice-spots.ensures.value) in
    let same = ap (λ (chunk : PackedItems). length chunk.items) c.self.view_is in
    omega (arith, long, same)

pub offset_bounds-spots-at : goal.offset_bounds-spots-at
offset_bounds-spots-at c =
    let long = items_long c.self.inside.bytes.items c.self.inside.spots.items 0 ∙ sym (ap length c.as_slice-spots.ensures.value) in
    let same = ap (λ (chunk : PackedItems). length chunk.items) c.self.view_is in
    let less : c.args.at < length c.as_slice-spots.result.now = omega (arith, long, same) in
    search rules

pub bounds-spots-at : goal.bounds-spots-at
bounds-spots-at c =
    let long = items_long c.self.inside.bytes.items c.self.inside.spots.items 0 ∙ sym (ap length c.as_slice-spots.ensures.value) in
    let same = ap (λ (chunk : PackedItems). length chunk.items) c.self.view_is in
    omega (arith, long, same)

pub part-requires : goal.part-requires
part-requires c =
    let was = c.self.inside in
    let seen = c.as_slice-spots.result.now in
    let bytes = c.as_slice.result.now in
    let long = items_long was.bytes.items was.spots.items 0 ∙ sym (ap length c.as_slice-spots.ensures.value) in
    let same = ap (λ (chunk : PackedItems). length chunk.items) c.self.view_is in
    let spots : AreSpots 0 seen (length bytes) =
    subst (λ (ss : List EntrySpot). AreSpots 0 ss (length bytes)) (sym c.as_slice-spots.ensures.value) (subst (λ (bs : List ℕ). AreSpots 0 was.spots.items (length bs)) (sym c.as_slice.ensures.value) c.self.invariant) in
    let within = body_within seen 0 (length bytes) c.args.at no_spot (omega (arith, long, same)) spots in
    (omega (arith, within.0, c.start_of.ensures), within.1)

pub returns : goal.returns
returns c =
    let was = c.self.inside in
    let at = c.args.at in
    let long = items_long was.bytes.items was.spots.items 0 in
    let same = ap (λ (chunk : PackedItems). length chunk.items) c.self.view_is in
    let start : c.start_of.result ≡ start_at 0 was.spots.items at = c.start_of.ensures ∙ ap (λ (ss : List EntrySpot). start_at 0 ss at) c.as_slice-spots.ensures.value in
    c.part.ensures
    ∙ (λ i. slice_range (c.as_slice.ensures.value i) (start i) (get_or (c.as_slice-spots.ensures.value i) at no_spot).end)
    ∙ sym (ap (λ (item : LogItem). item.body) (nth_in was.bytes.items was.spots.items 0 at no_spot no_item (omega (arith, long, same))))
    ∙ ap (λ (chunk : PackedItems). (nth_item chunk.items at).body) c.self.view_is
