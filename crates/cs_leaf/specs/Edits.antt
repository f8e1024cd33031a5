-- Edits of entries whose places rise.
use Rattle.std.specs.Prelude.{not, drop, ◌≡◌, ◌⊎◌, ◌<◌, ◌+◌, ℕ, false, T, length, List, [], ◌∷◌, ◌++◌, Option, Some, None}
use Rattle.std.specs.Ordering.{is_eq, eq_by_cmp}
use Rattle.std.specs.declared.cmp.Ordering.TheVariants.{Less, Equal}
use Rattle.std.specs.FinMap.Entries.{below_all, put, where_key}
use Rattle.cs_store.specs.Contents.{StorePlace, place_cmp}
pub use Rattle.cs_store.specs.Written.{store_place}
use Rattle.cs_store.specs.edits.Edits.{BodyEdit}
use Rattle.cs_leaf.specs.Entries.{Entry, nth}

-- entries in which a row is set, or with none removed
abbrev pub put_row : List Entry → StorePlace → Option (List ℕ) → List Entry
put_row es place None = where_key place_cmp (λ q. not (eq_by_cmp place_cmp place q)) es
put_row es place (Some row) = put place_cmp place row es

-- all entries are below a place
abbrev pub AreBelow : List Entry → StorePlace → Type 0
AreBelow [] place = Unit {0}
AreBelow (e ∷ es) place = (place_cmp e.0 place ≡ Less) × AreBelow es place

abbrev pub edited : List Entry → BodyEdit → List Entry
edited es edit = put_row es (store_place edit) edit.body

-- all places are behind this one
abbrev pub Follow : StorePlace → List BodyEdit → Type 0
Follow place [] = Unit {0}
Follow place (edit ∷ edits) = (place_cmp place (store_place edit) ≡ Less) × Follow place edits

-- the places of edits rise
abbrev pub Rise : List BodyEdit → Type 0
Rise [] = Unit {0}
Rise (edit ∷ edits) = Follow (store_place edit) edits × Rise edits

-- all these entries are below each edit's place
abbrev pub AreEditsAbove : List Entry → List BodyEdit → Type 0
AreEditsAbove es [] = Unit {0}
AreEditsAbove es (edit ∷ edits) = AreBelow es (store_place edit) × AreEditsAbove es edits

-- each edit's place is below all these entries
abbrev pub AreEditsBelow : List BodyEdit → List Entry → Type 0
AreEditsBelow [] es = Unit {0}
AreEditsBelow (edit ∷ edits) es = T (below_all place_cmp (store_place edit) es) × AreEditsBelow edits es

-- where entries go on behind a place that stands or would stand at `at`
abbrev pub IsBehind : List Entry → ℕ → StorePlace → ℕ → Type 0
IsBehind es at place next =
    ((next ≡ at + 1) × (at < length es) × (place_cmp (nth es at).0 place ≡ Equal))
    ⊎ ((next ≡ at) × ((at ≡ length es) ⊎ (is_eq (place_cmp (nth es at).0 place) ≡ false)))

-- an edit is merged into the entries from one on, up to the next: behind those that are below its place
pub record IsMerged (es : List Entry) (from : ℕ) (edit : BodyEdit) (next : ℕ) (before after : List Entry) : Type 0 where
  pub more : List Entry
  pub pushed : after ≡ before ++ more
  pub same : edited (drop from es) edit ≡ more ++ drop next es
  pub below : (place : StorePlace) → place_cmp (store_place edit) place ≡ Less → AreBelow more place
