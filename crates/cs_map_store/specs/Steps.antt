-- The copies that a commit makes of a batch's edits.
use Rattle.std.specs.Prelude.{◌≡◌, Bool, true, false, Option, List, [], ◌∷◌, map, Some, None, IsSome}
use Rattle.std.specs.List.{All, list_any}
use Rattle.std.specs.BTreeMap.{BTreeMap, get, is_at}
use Rattle.cs_map_store.specs.declared.slots.Step.{Step}
use Rattle.cs_store.specs.Written.{optional_bytes}
use Rattle.cs_map_store.specs.Slots.{SlotKey, Slot, HasOwnNames, key_cmp, meta_of, place_of, shown, Write}

abbrev pub step_write : Step → Write
step_write s = (place_of s.key, optional_bytes s.value)

-- the map has a slot for the key
abbrev pub HasSlot : BTreeMap SlotKey Slot → SlotKey → Type 0
HasSlot m k = IsSome (get key_cmp m k)

-- the map has a slot for each key that the steps set
abbrev pub HasSlots : BTreeMap SlotKey Slot → List Step → Type 0
HasSlots m steps = All (λ s. IsSome s.value → HasSlot m s.key) steps

abbrev pub step_keys : List Step → List SlotKey
step_keys = map (λ s. s.key)

-- whether a key is one of these
abbrev pub is_among : List SlotKey → SlotKey → Bool
is_among ks q = list_any (λ k. is_at (key_cmp k) q) ks

-- a slot with no value stands at one of these keys, if anywhere
unfoldable pub IsEmptyOnlyAt : List SlotKey → BTreeMap SlotKey Slot → Type 0
IsEmptyOnlyAt ks m = (q : SlotKey) → get key_cmp m q ≡ Some None → is_among ks q ≡ true

-- the keys that may be left with no value where one is written: that key too, where it is cleared
abbrev pub left_empty : Slot → SlotKey → List SlotKey → List SlotKey
left_empty None k ks = k ∷ ks
left_empty (Some v) k ks = ks

-- what a `MapStore` keeps: a value in each slot, and no slot but for names
pub record IsKept (slots : BTreeMap SlotKey Slot) : Type 0 where
  pub filled : IsEmptyOnlyAt [] slots
  pub names : HasOwnNames (meta_of (shown slots.entries))

-- whether there is a slot, with no value
abbrev pub is_empty_slot : Option Slot → Bool
is_empty_slot (Some None) = true
is_empty_slot _ = false
