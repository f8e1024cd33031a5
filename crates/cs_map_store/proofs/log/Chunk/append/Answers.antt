use Rattle.std.proofs.Common.{◌≡◌, ◌++◌, ◌∷◌, [], ℕ, Bool, List, cond, length, ap, sym, subst, ◌∙◌, arith, length-append}
use Rattle.std.specs.Prelude.{IsOk}
use Rattle.cs_store.specs.Written.{item_of}
use Rattle.cs_map_store.specs.Packed.{PackedItems, AreSpots, items_in}
use Rattle.cs_map_store.specs.declared.log.EntrySpot.{EntrySpot}
use Rattle.cs_map_store.proofs.Packing.{items_pushed, spots_pushed}
use Rattle.cs_map_store.proofs.log.Chunk.append.Goals as goal

pub invariant_of-self : goal.invariant_of-self
invariant_of-self c =
    let was = c.self.inside in
    let body = c.args.entry.now.body.items in
    let new = c.extend_from_slice.new.self in
    let room = ap (λ (chunk : PackedItems). chunk.bytes) c.self.view_is in
    let its = ap length c.as_slice.ensures.value in
    let done : IsOk c.extend_from_slice.result = c.extend_from_slice.ensures.succeeds (omega (arith, room, its, was.bytes.ok.0, was.bytes.ok.1)) in
    let grown : new.items ≡ was.bytes.items ++ body =
    c.extend_from_slice.ensures.items ∙ ap (λ (t : Bool). cond t (was.bytes.items ++ c.as_slice.result.now) was.bytes.items) done ∙ ap (λ (zs : List ℕ). was.bytes.items ++ zs) c.as_slice.ensures.value in
    let ends : c.len.result ≡ length new.items = c.len.ensures ∙ new.ok.0 in
    subst (λ (spots : List EntrySpot). AreSpots 0 spots (length new.items)) (sym c.push_reserved.ensures.items)
    (subst (AreSpots 0 (was.spots.items ++ record { number = c.args.entry.now.number; origin = c.args.entry.now.origin; end = c.len.result } ∷ [])) ends
    (spots_pushed was.spots.items 0 (length was.bytes.items) (record { number = c.args.entry.now.number; origin = c.args.entry.now.origin; end = c.len.result }) c.self.invariant
    (omega (arith, ends, ap length grown, length-append was.bytes.items body))))

pub returns-clause-items : goal.returns-clause-items
returns-clause-items c =
    let was = c.self.inside in
    let entry = c.args.entry.now in
    let body = entry.body.items in
    let new = c.extend_from_slice.new.self in
    let room = ap (λ (chunk : PackedItems). chunk.bytes) c.self.view_is in
    let its = ap length c.as_slice.ensures.value in
    let done : IsOk c.extend_from_slice.result = c.extend_from_slice.ensures.succeeds (omega (arith, room, its, was.bytes.ok.0, was.bytes.ok.1)) in
    let grown : new.items ≡ was.bytes.items ++ body =
    c.extend_from_slice.ensures.items ∙ ap (λ (t : Bool). cond t (was.bytes.items ++ c.as_slice.result.now) was.bytes.items) done ∙ ap (λ (zs : List ℕ). was.bytes.items ++ zs) c.as_slice.ensures.value in
    let spot : EntrySpot = record { number = entry.number; origin = entry.origin; end = c.len.result } in
    (λ i. items_in (grown i) 0 (c.push_reserved.ensures.items i))
    ∙ items_pushed was.bytes.items body was.spots.items 0 spot c.self.invariant (c.len.ensures ∙ new.ok.0 ∙ ap length grown)
    ∙ ap (λ (chunk : PackedItems). chunk.items ++ item_of entry ∷ []) c.self.view_is
