-- The places that wait, in the keys and rows that are held of them.
use Rattle.std.proofs.Common.{◌≡◌, ◌<◌, ℕ, zero, suc, List, [], ◌∷◌, ◌++◌, Option, Some, None, option_map, ◌-◌, ◌≤◌, length, take, drop, get_or, refl, sym, ap, ◌∙◌, arith}
use Rattle.std.specs.Prelude.{Result, Ok, Err, OnErr, IfSome, slice_get, slice_set}
use Rattle.std.specs.List.{All, slice_range}
use Rattle.std.proofs.lemmas.List.{append-nil, map-append, map-set, set-get_or, length-drop, drop-append-le, take-append-le, take_rest}
use Rattle.std.proofs.Math.Seq.{drop-append_seam}
use Rattle.std.proofs.lemmas.Option.{same_Some, slice_get-map, slice_get-get_or, get_or_from_slice_get}
use Rattle.cs_value.specs.Key.{Place}
use Rattle.cs_change.specs.declared.change.Change.{Change}
use Rattle.cs_record.specs.Spelling.{Extends}
use Rattle.cs_apply.specs.Slots.{inserted, row_at, slot_after, slot_at, slot_in, slots_in, IsNumberIn, IsSlotSpotIn}
use Rattle.cs_apply.specs.declared.slots.KeysAndRows.{KeysAndRows}
use Rattle.cs_apply.specs.declared.slots.Slot.{Slot}
use Rattle.cs_apply.specs.declared.slots.SlotSpot.{SlotSpot}
use Rattle.cs_apply.specs.declared.slots.StoredPlace.{StoredPlace}

-- what is told of an `Err`
pub on_err : {T E P : Type 0} (result : Result T E) → P → OnErr result P
on_err (Ok value) told = tt
on_err (Err why) told = told

-- what stands in front stays there
front_stays : {X : Type 0} (xs : List X) (many at : ℕ) → at < many → slice_get xs at ≡ slice_get (take many xs) at
front_stays xs zero at less = absurd (omega (arith, less))
front_stays [] (suc many) at less = refl
front_stays (x ∷ xs) (suc many) zero less = refl
front_stays (x ∷ xs) (suc many) (suc at) less = front_stays xs many at (omega (arith, less))

-- a key stays where more follow
key_stays : (keys more : List ℕ) (key past : ℕ) → key ≤ past → past ≤ length keys
    → slice_range (keys ++ more) key past ≡ slice_range keys key past
key_stays keys more key past whole within =
    ap (take (past - key)) (drop-append-le key keys more (omega arith))
    ∙ take-append-le (past - key) (drop key keys) more (omega (arith, length-drop key keys))

-- what is put behind the others is the key that stands there
pub key_put : (keys key : List ℕ) → slice_range (keys ++ key) (length keys) (length (keys ++ key)) ≡ key
key_put keys key = take_rest (keys ++ key) (length keys) ∙ drop-append_seam keys key

-- what is said of all is said of those behind the first
all_behind : {X : Type 0} (P : X → Type 0) (x : X) (xs : List X) → All P (x ∷ xs) → All P xs
all_behind P x xs h = λ k d less. h (suc k) d (omega (arith, less))

-- what stands there already is put there
pub put_same : (slots : List Slot) (at : ℕ) (slot : Slot) → slice_get slots at ≡ Some slot → slots ≡ slice_set slots at slot
put_same slots at slot found = sym (set-get_or slots at slot) ∙ ap (slice_set slots at) (get_or_from_slice_get slots at slot slot found)

-- the spot, with the number of what is left
abbrev pub with_left : SlotSpot → Option (Option ℕ) → SlotSpot
with_left spot left = record spot { left = left }

-- keys or rows more are held
pub record AreMore (old new : KeysAndRows) : Type 0 where
  pub more : List ℕ
  pub keys : new.keys.items ≡ old.keys.items ++ more
  pub rows : Extends old.rows new.rows

pub rows_more : (old : KeysAndRows) (rows : List Change) → Extends old.rows rows → AreMore old (record old { rows = rows })
rows_more old rows grown = record { more = []; keys = sym (append-nil old.keys.items); rows = grown }

module _ (old new : KeysAndRows) (grown : AreMore old new) where
  row_stays : (number : Option ℕ) → IsNumberIn (length old.rows) number → row_at new.rows number ≡ row_at old.rows number
  row_stays None within = refl
  row_stays (Some number) within =
      ap inserted (front_stays new.rows (length old.rows) number within ∙ ap (λ rows. slice_get rows number) grown.rows)

  left_stays : (left : Option (Option ℕ)) → IfSome left (IsNumberIn (length old.rows))
      → option_map (row_at new.rows) left ≡ option_map (row_at old.rows) left
  left_stays None within = refl
  left_stays (Some number) within = ap (λ row. Some row) (row_stays number within)

  slot_stays : (spot : SlotSpot) → IsSlotSpotIn old spot → slot_in new spot ≡ slot_in old spot
  slot_stays spot within =
      let key =
      ap (λ keys. slice_range keys spot.key spot.past) grown.keys
      ∙ key_stays old.keys.items grown.more spot.key spot.past within.0 within.1 in
      let before = row_stays spot.before within.2 in
      let left = left_stays spot.left within.3 in
      rw (key, before, left) refl

  -- the places stay
  pub slots_stay : (spots : List SlotSpot) → All (IsSlotSpotIn old) spots → slots_in new spots ≡ slots_in old spots
  slots_stay [] within = refl
  slots_stay (spot ∷ spots) within =
      let one = slot_stays spot (within 0 spot (omega arith)) in
      let rest = slots_stay spots (all_behind (IsSlotSpotIn old) spot spots within) in
      cc

  module _ (spots : List SlotSpot) (within : All (IsSlotSpotIn old) spots) where
    -- a place more, whose key and row are there
    pub slots_more : (stored : StoredPlace) (spot : SlotSpot) → slot_in new spot ≡ slot_at stored
        → slots_in new (spots ++ spot ∷ []) ≡ slots_in old spots ++ slot_at stored ∷ []
    slots_more stored spot stands =
        map-append (slot_in new) spots (spot ∷ [])
        ∙ ap (λ slots. slots ++ slot_in new spot ∷ []) (slots_stay spots within)
        ∙ ap (λ slot. slots_in old spots ++ slot ∷ []) stands

    -- what is left at a place, whose row is there
    pub slots_put : (at : ℕ) (some : SlotSpot) (number : Option ℕ) (row : Place) (slot : Slot)
        → at < length spots → row_at new.rows number ≡ row
        → slice_get (slots_in old spots) at ≡ Some slot
        → slots_in new (slice_set spots at (with_left (get_or spots at some) (Some number)))
        ≡ slice_set (slots_in old spots) at (slot_after slot (Some row))
    slots_put at some number row slot less stands found =
        let spot = get_or spots at some in
        let same : slot_in old spot ≡ slot =
        same_Some _ _
        (sym (slice_get-map (slot_in old) spots at ∙ ap (option_map (slot_in old)) (slice_get-get_or spots at some less)) ∙ found) in
        let is = slot_stays spot (within at some less) in
        let put : slot_in new (with_left spot (Some number)) ≡ slot_after (slot_in old spot) (Some row) =
        ap (λ s. slot_after s (Some (row_at new.rows number))) is ∙ ap (λ r. slot_after (slot_in old spot) (Some r)) stands in
        map-set (slot_in new) spots at (with_left spot (Some number))
        ∙ ap (λ slots. slice_set slots at (slot_in new (with_left spot (Some number)))) (slots_stay spots within)
        ∙ ap (slice_set (slots_in old spots) at) (put ∙ ap (λ s. slot_after s (Some row)) same)
