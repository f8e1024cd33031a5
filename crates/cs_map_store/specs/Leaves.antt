-- Bodies as a `MapStore` keeps them: leaves of entries, whose places rise through all leaves together.
use Rattle.std.specs.Prelude.{not, ℤ, filter, ◌≡◌, ◌⊎◌, ◌<◌, ℕ, Bool, true, false, T, map, length, slice_index_or, slice_set, List, [], ◌∷◌, ◌++◌}
use Rattle.std.specs.Coded.{Coded, coded×, coded_list, coded_ℕ, coded_ℤ}
use Rattle.std.specs.FinMap as finite
use Rattle.std.specs.List.{All}
use Rattle.std.specs.Ordering.{int_eq, is_eq, is_lt, is_gt}
use Rattle.std.specs.FinMap.{from_sorted, is_sorted}
use Rattle.cs_store.specs.Contents.{StorePlace, Bodies, place_cmp}
use Rattle.cs_store.specs.Written.{store_place}
use Rattle.cs_store.specs.edits.Edits.{BodyEdit}
use Rattle.cs_leaf.specs.Entries.{Entry, nth}
use Rattle.cs_map_store.specs.declared.leaves.Patch.{Patch}
use Rattle.cs_map_store.specs.declared.leaves.Staged.{Staged}
use Rattle.cs_map_store.specs.declared.leaves.Staged.TheVariants.{Patches, Fresh}

-- the entries of all leaves
abbrev pub flat : List (List Entry) → List Entry
flat [] = []
flat (leaf ∷ leaves) = leaf ++ flat leaves

abbrev pub nth_leaf : List (List Entry) → ℕ → List Entry
nth_leaf leaves at = slice_index_or leaves at []

-- the first place of a leaf that has one
abbrev pub first_place : List (List Entry) → ℕ → StorePlace
first_place leaves at = (nth (nth_leaf leaves at) 0).0

abbrev pub bodies_code : Coded Bodies
bodies_code = finite.code {R = place_cmp} (coded× coded_ℤ (coded_list coded_ℕ)) (coded_list coded_ℕ)

abbrev pub bodies_in : List (List Entry) → Bodies
bodies_in leaves = from_sorted (flat leaves)

-- the first of these edits isn't below the place
abbrev pub GoOnFrom : StorePlace → List BodyEdit → Type 0
GoOnFrom place [] = Unit {0}
GoOnFrom place (edit ∷ edits) = is_lt (place_cmp (store_place edit) place) ≡ false

-- the places of edits don't fall
abbrev pub DontFall : List BodyEdit → Type 0
DontFall [] = Unit {0}
DontFall (edit ∷ edits) = GoOnFrom (store_place edit) edits × DontFall edits

-- whether the next edit, if there is one, is at another place than the first
abbrev pub is_last_of : List BodyEdit → Bool
is_last_of [] = true
is_last_of (edit ∷ []) = true
is_last_of (edit ∷ next ∷ edits) = not (is_eq (place_cmp (store_place edit) (store_place next)))

-- the leaf begins at a place that isn't above this one, or is the first
abbrev pub BeginsBy : List (List Entry) → ℕ → StorePlace → Type 0
BeginsBy leaves at place = (at ≡ 0) ⊎ (is_gt (place_cmp (first_place leaves at) place) ≡ false)

-- the leaf begins above the place, or isn't there
abbrev pub BeginsBehind : List (List Entry) → ℕ → StorePlace → Type 0
BeginsBehind leaves at place = (at ≡ length leaves) ⊎ (is_gt (place_cmp (first_place leaves at) place) ≡ true)

-- all edits are before the leaf there
abbrev pub AreBefore : List (List Entry) → ℕ → List BodyEdit → Type 0
AreBefore leaves at [] = Unit {0}
AreBefore leaves at (edit ∷ edits) = BeginsBehind leaves at (store_place edit) × AreBefore leaves at edits

-- the first edit, if there is one, isn't before the leaf there
abbrev pub ReachLeaf : List (List Entry) → ℕ → List BodyEdit → Type 0
ReachLeaf leaves at [] = Unit {0}
ReachLeaf leaves at (edit ∷ edits) = (at < length leaves) × (is_gt (place_cmp (first_place leaves at) (store_place edit)) ≡ false)

-- what a `MapStore` keeps of rows: no leaf is empty, and places rise
pub record AreLeaves (leaves : List (List Entry)) : Type 0 where
  pub full : All (λ leaf. 0 < length leaf) leaves
  pub rise : T (is_sorted place_cmp (flat leaves))

-- ---- a commit

-- leaves after some are changed
abbrev pub patched : List (List Entry) → List Patch → List (List Entry)
patched leaves [] = leaves
patched leaves (patch ∷ patches) = patched (slice_set leaves patch.at patch.change.1) patches

abbrev pub ArePatches : ℕ → List Patch → Type 0
ArePatches count = All (λ patch. patch.at < count)

-- leaves into which the one that a patch took is put back
abbrev pub undone : List (List Entry) → Patch → List (List Entry)
undone leaves patch = slice_set leaves patch.at patch.change.0

-- leaves into which what patches took is put back, the last first
abbrev pub restored : List (List Entry) → List Patch → List (List Entry)
restored leaves [] = leaves
restored leaves (patch ∷ patches) = undone (restored leaves patches) patch

-- what is staged makes of the leaves: others in their places, or new ones
abbrev pub after_staged : Staged → List (List Entry) → List (List Entry)
after_staged (Patches patches) leaves = patched leaves patches.items
after_staged (Fresh made) leaves = made.items

-- the leaves without what is staged
abbrev pub before_staged : Staged → List (List Entry) → List (List Entry)
before_staged (Patches patches) leaves = restored leaves patches.items
before_staged (Fresh made) leaves = leaves

-- what is staged can be put in. Each patch is for a leaf that is there. Unless one leaves a leaf without a row, no leaf is
-- empty then, and no new leaf is empty
abbrev pub CanBePut : Staged → List (List Entry) → Type 0
CanBePut (Patches patches) leaves =
    ArePatches (length leaves) patches.items
    × (All (λ patch. 0 < length patch.change.1) patches.items → All (λ leaf. 0 < length leaf) (patched leaves patches.items))
CanBePut (Fresh made) leaves = All (λ leaf. 0 < length leaf) made.items

-- what is staged can be put in or left: either way places rise
pub record CanBeMade (staged : Staged) (leaves : List (List Entry)) : Type 0 where
  pub can : CanBePut staged leaves
  pub before : AreLeaves (before_staged staged leaves)
  pub rise : T (is_sorted place_cmp (flat (after_staged staged leaves)))

-- the keys and the rows of a table
abbrev pub in_table : ℤ → List Entry → List (List ℕ × List ℕ)
in_table table es = map (λ e. (e.0.1, e.1)) (filter (λ e. int_eq e.0.0 table) es)
