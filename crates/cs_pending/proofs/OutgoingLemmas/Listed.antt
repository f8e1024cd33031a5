-- The changes that a listing of one table spells.
use Rattle.std.proofs.Common.{◌≡◌, ◌++◌, ◌&&◌, ℕ, Bool, true, false, cond, List, [], ◌∷◌, Option, Some, None, option_map, T, refl, sym, ap, ap₂, ◌∙◌}
use Rattle.std.specs.FinMap.{find, is_sorted}
use Rattle.std.specs.FinMap.Entries.{below_all}
use Rattle.std.specs.List.{AllByRecursion, flat_map}
use Rattle.std.specs.List.Sorted.{IsStrictlySortedBy}
use Rattle.std.specs.Map.{keys_of}
use Rattle.std.specs.Ordering.{is_eq, is_lt}
use Rattle.std.specs.declared.cmp.Ordering.{Ordering}
use Rattle.std.specs.declared.cmp.Ordering.TheVariants.{Less, Equal, Greater}
use Rattle.std.proofs.lemmas.Option.{same_Some}
use Rattle.cs_value.specs.Facts.{by_test}
use Rattle.cs_order.specs.Order.{by_bytes, same_bytes}
use Rattle.cs_change.specs.Spelling.{change_spelling}
use Rattle.cs_change.specs.declared.change.Change.{Change}
use Rattle.cs_normal.specs.keyed.Changes.{Changes, change_at}
use Rattle.cs_pending.specs.Spots.{key_is, key_refl}

abbrev pub Listing : Type 0
Listing = List (List ℕ × List ℕ)

first : (a b : Bool) → T (a && b) → T a
first true b h = tt
first false b h = absurd h

second : (a b : Bool) → T (a && b) → T b
second true b h = h
second false b h = absurd h

less : (o : Ordering) → T (is_lt o) → o ≡ Less
less Less h = refl
less Equal h = absurd h
less Greater h = absurd h

lt_apart : (o : Ordering) → T (is_lt o) → is_eq o ≡ false
lt_apart Less h = refl
lt_apart Equal h = absurd h
lt_apart Greater h = absurd h

none_below : (key : List ℕ) (rows : Listing) → T (below_all by_bytes key rows) → find by_bytes key rows ≡ None
none_below key [] h = refl
none_below key (row ∷ rows) h = ap (λ (b : Bool). cond b (Some row.1) (find by_bytes key rows)) (lt_apart (by_bytes key row.0) (first _ _ h)) ∙ none_below key rows (second _ _ h)

-- what is found at a key is listed there
pub each_found : (P : List ℕ → List ℕ → Type 0) (rows : Listing) → T (is_sorted by_bytes rows) → ((key body : List ℕ) → find by_bytes key rows ≡ Some body → P key body) → AllByRecursion (λ (row : List ℕ × List ℕ). P row.0 row.1) rows
each_found P [] s h = tt
each_found P (row ∷ rows) s h = (
  h row.0 row.1 (ap (λ (b : Bool). cond b (Some row.1) (find by_bytes row.0 rows)) (key_refl row.0)),
  each_found P rows (second _ _ s) (λ key body is. h key body (behind key body is)),
)
  where
    behind : (key body : List ℕ) → find by_bytes key rows ≡ Some body → find by_bytes key (row ∷ rows) ≡ Some body
    behind key body is =
        by_test (same_bytes key row.0) _
        (λ t. let none = none_below row.0 rows (first _ _ s) in
        let same = ap (λ (k : List ℕ). find by_bytes k rows) (sym (key_is key row.0 t)) in
        absurd (let no : ◌≡◌ {A = Option (List ℕ)} None (Some body) = sym none ∙ same ∙ is in cc))
        (λ t. simp t is)

module _ (pend : List ℕ → Option Change) where
  abbrev pub one_at : Option Change → List ℕ → Changes
  one_at None key = []
  one_at (Some change) key = (key, change) ∷ []

  abbrev pub changes_of : Listing → Changes
  changes_of [] = []
  changes_of (row ∷ rows) = one_at (pend row.0) row.0 ++ changes_of rows

  -- each body spells what is pending at its key
  abbrev pub AreListed : Listing → Type 0
  AreListed rows = AllByRecursion (λ (row : List ℕ × List ℕ). option_map change_spelling (pend row.0) ≡ Some row.1) rows

  pub bodies_spell : (rows : Listing) → AreListed rows → flat_map (λ (keyed : List ℕ × Change). change_spelling keyed.1) (changes_of rows) ≡ flat_map (λ (row : List ℕ × List ℕ). row.1) rows
  bodies_spell [] are = refl
  bodies_spell (row ∷ rows) are =
      elim (pend row.0) as (λ o. option_map change_spelling o ≡ Some row.1 → flat_map (λ (keyed : List ℕ × Change). change_spelling keyed.1) (one_at o row.0 ++ changes_of rows) ≡ row.1 ++ flat_map (λ (r : List ℕ × List ℕ). r.1) rows) [
        | None ↦ λ e. absurd (let no = e in cc)
        | Some c ↦ λ e. ap₂ (λ (x y : List ℕ). x ++ y) (same_Some (change_spelling c) row.1 e) (bodies_spell rows are.1)
      ] are.0

  below : (key : List ℕ) (rows : Listing) → T (below_all by_bytes key rows) → AllByRecursion (λ (y : List ℕ). by_bytes key y ≡ Less) (keys_of (changes_of rows))
  below key [] h = tt
  below key (row ∷ rows) h =
      elim (pend row.0) as (λ o. AllByRecursion (λ (y : List ℕ). by_bytes key y ≡ Less) (keys_of (one_at o row.0 ++ changes_of rows))) [
        | None ↦ below key rows (second _ _ h)
        | Some c ↦ (less (by_bytes key row.0) (first _ _ h), below key rows (second _ _ h))
      ]

  pub changes_rise : (rows : Listing) → T (is_sorted by_bytes rows) → IsStrictlySortedBy by_bytes (keys_of (changes_of rows))
  unfolding IsStrictlySortedBy
  changes_rise [] s = tt
  changes_rise (row ∷ rows) s =
      elim (pend row.0) as (λ o. IsStrictlySortedBy by_bytes (keys_of (one_at o row.0 ++ changes_of rows))) [
        | None ↦ changes_rise rows (second _ _ s)
        | Some c ↦ (below row.0 rows (first _ _ s), changes_rise rows (second _ _ s))
      ]

  none_mapped : (o : Option Change) → None ≡ option_map change_spelling o → None ≡ o
  none_mapped None e = refl
  none_mapped (Some c) e = absurd (let no = e in cc)

  -- the change at each key is what is pending there
  pub found_change : (key : List ℕ) (rows : Listing) → AreListed rows → find by_bytes key rows ≡ option_map change_spelling (pend key) → change_at key (changes_of rows) ≡ pend key
  found_change key [] are e = none_mapped (pend key) e
  found_change key (row ∷ rows) are e =
      elim (pend row.0) as (λ o. pend row.0 ≡ o → option_map change_spelling o ≡ Some row.1 → change_at key (one_at o row.0 ++ changes_of rows) ≡ pend key) [
        | None ↦ λ is h. absurd (let no = h in cc)
        | Some c ↦ λ is h. by_test (same_bytes key row.0) _
            (λ t. simp t (sym is ∙ ap pend (sym (key_is key row.0 t))))
            (λ t. simp t (found_change key rows are.1 (rw t at e)))
      ] refl are.0

  -- a fact of each change that is pending
  pub each_change : (P : (List ℕ × Change) → Type 0) → ((key : List ℕ) (change : Change) → pend key ≡ Some change → P (key, change)) → (rows : Listing) → AllByRecursion P (changes_of rows)
  each_change P h [] = tt
  each_change P h (row ∷ rows) =
      elim (pend row.0) as (λ o. pend row.0 ≡ o → AllByRecursion P (one_at o row.0 ++ changes_of rows)) [
        | None ↦ λ is. each_change P h rows
        | Some c ↦ λ is. (h row.0 c is, each_change P h rows)
      ] refl

  -- where something is listed, there is a change
  pub some_listed : (row : List ℕ × List ℕ) (rows : Listing) → AreListed (row ∷ rows) → changes_of (row ∷ rows) ≡ [] → ⊥
  some_listed row rows are =
      elim (pend row.0) as (λ o. option_map change_spelling o ≡ Some row.1 → one_at o row.0 ++ changes_of rows ≡ [] → ⊥) [
        | None ↦ λ h e. absurd (let no = h in cc)
        | Some c ↦ λ h e. absurd (let no = e in cc)
      ] are.0
