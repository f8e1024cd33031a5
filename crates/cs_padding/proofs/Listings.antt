-- The edits of a listing: they rise, and what they leave at each place.
use Rattle.std.proofs.Common.{◌≡◌, ◌∙◌, ◌++◌, ◌&&◌, ℕ, Bool, List, [], ◌∷◌, map, Option, Some, None, T, true, false, cond, refl, ap, ap₂, sym}
use Rattle.std.specs.Prelude.{nat_eq}
use Rattle.std.specs.Cmp.{nat_cmp_is}
use Rattle.std.specs.FinMap.{find, is_sorted}
use Rattle.std.specs.FinMap.Entries.{below_all}
use Rattle.std.specs.List.{AllByRecursion}
use Rattle.std.specs.List.Sorted.{IsStrictlySortedBy}
use Rattle.std.specs.Ordering.{is_eq, is_lt, ordering_then}
use Rattle.std.specs.declared.cmp.Ordering.{Ordering}
use Rattle.std.specs.declared.cmp.Ordering.TheVariants.{Less, Equal, Greater}
use Rattle.std.proofs.lemmas.Bool.Decides.{Decides-eqb}
use Rattle.cs_value.specs.Facts.{by_test}
use Rattle.cs_order.specs.Facts.{cons_sorted, same_is}
use Rattle.cs_order.specs.Order.{by_bytes, same_bytes}
use Rattle.cs_store.specs.Laws.{row_after}
use Rattle.cs_store.specs.States.{edit_place, place_bytes}
use Rattle.cs_padding.specs.Steps.{edits_of}

-- what stands behind keys
abbrev pub Keyed : Type 0 → Type 0
Keyed A = List (List ℕ × A)

abbrev pub Listing : Type 0
Listing = Keyed (List ℕ)

-- ---- keys behind a front stand in the order of the keys

pub front_same : (front some other : List ℕ) → by_bytes (front ++ some) (front ++ other) ≡ by_bytes some other
front_same [] some other = refl
front_same (x ∷ front) some other =
    ap (λ (o : Ordering). ordering_then o (by_bytes (front ++ some) (front ++ other))) (sym (nat_cmp_is x x Equal refl)) ∙ front_same front some other

less_is : (o : Ordering) → T (is_lt o) → o ≡ Less
less_is Less h = refl
less_is Equal h = absurd h
less_is Greater h = absurd h

apart : (o : Ordering) → T (is_lt o) → is_eq o ≡ false
apart Less h = refl
apart Equal h = absurd h
apart Greater h = absurd h

first : (a b : Bool) → T (a && b) → T a
first true b h = tt
first false b h = absurd h

second : (a b : Bool) → T (a && b) → T b
second true b h = h
second false b h = absurd h

none_below : {A : Type 0} (key : List ℕ) (rows : Keyed A) → T (below_all by_bytes key rows) → find by_bytes key rows ≡ None
none_below key [] h = refl
none_below key (row ∷ rows) h = ap (λ (b : Bool). cond b (Some row.1) (find by_bytes key rows)) (apart (by_bytes key row.0) (first _ _ h)) ∙ none_below key rows (second _ _ h)

module _ {A : Type 0} (body : A → List ℕ) (number : ℕ) where
  above : (key : List ℕ) (rows : Keyed A) → T (below_all by_bytes key rows)
      → AllByRecursion (λ (place : List ℕ). by_bytes (place_bytes number key) place ≡ Less) (map edit_place (edits_of body number rows))
  above key [] h = tt
  above key (row ∷ rows) h = (
    front_same (place_bytes number []) key row.0 ∙ less_is (by_bytes key row.0) (first _ _ h),
    above key rows (second _ _ h),
  )

  pub rising : (rows : Keyed A) → T (is_sorted by_bytes rows) → IsStrictlySortedBy by_bytes (map edit_place (edits_of body number rows))
  unfolding IsStrictlySortedBy
  rising [] h = tt
  rising (row ∷ rows) h =
      cons_sorted (place_bytes number row.0) (map edit_place (edits_of body number rows)) (above row.0 rows (first _ _ h)) (rising rows (second _ _ h))

  -- ---- what they leave

  -- the body of what is listed, or else what stood
  abbrev pub or_set : Option A → Option (List ℕ) → Option (List ℕ)
  or_set None stood = stood
  or_set (Some found) stood = Some (body found)

  step : (other : ℕ) (key : List ℕ) (row : List ℕ × A) (rows : Keyed A) (stood : Option (List ℕ)) (t : Bool) → (nat_eq other number && same_bytes key row.0) ≡ t
      → row_after (edits_of body number (row ∷ rows)) other key stood ≡ row_after (edits_of body number rows) other key (cond t (Some (body row.1)) stood)
  step other key row rows stood t e = ap (λ (b : Bool). row_after (edits_of body number rows) other key (cond b (Some (body row.1)) stood)) e

  pub left_there : (key : List ℕ) (rows : Keyed A) (stood : Option (List ℕ)) → T (is_sorted by_bytes rows)
      → row_after (edits_of body number rows) number key stood ≡ or_set (find by_bytes key rows) stood
  left_there key [] stood h = refl
  left_there key (row ∷ rows) stood h =
      let same : nat_eq number number ≡ true = (Decides-eqb number number).1 refl in
      let found : (t : Bool) → same_bytes key row.0 ≡ t → find by_bytes key (row ∷ rows) ≡ cond t (Some row.1) (find by_bytes key rows) =
      λ t e. ap (λ (b : Bool). cond b (Some row.1) (find by_bytes key rows)) e in
      by_test (same_bytes key row.0) _
      (λ t. let none : find by_bytes key rows ≡ None = ap (λ (k : List ℕ). find by_bytes k rows) (same_is key row.0 t) ∙ none_below row.0 rows (first _ _ h) in
      step number key row rows stood true (ap₂ (λ (a b : Bool). a && b) same t)
      ∙ left_there key rows (Some (body row.1)) (second _ _ h)
      ∙ ap (λ (o : Option A). or_set o (Some (body row.1))) none
      ∙ sym (ap (λ (o : Option A). or_set o stood) (found true t)))
      (λ t. step number key row rows stood false (ap₂ (λ (a b : Bool). a && b) same t)
      ∙ left_there key rows stood (second _ _ h)
      ∙ sym (ap (λ (o : Option A). or_set o stood) (found false t)))

  pub left_elsewhere : (other : ℕ) (key : List ℕ) (rows : Keyed A) (stood : Option (List ℕ)) → nat_eq other number ≡ false
      → row_after (edits_of body number rows) other key stood ≡ stood
  left_elsewhere other key [] stood differ = refl
  left_elsewhere other key (row ∷ rows) stood differ =
      step other key row rows stood false (ap (λ (b : Bool). b && same_bytes key row.0) differ) ∙ left_elsewhere other key rows stood differ
