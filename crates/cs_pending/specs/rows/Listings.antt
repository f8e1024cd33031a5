-- What is found in a listing whose keys rise, and what each of its pairs has. Crates above cite it.
use Rattle.std.proofs.Common.{◌≡◌, ◌∙◌, ◌&&◌, ℕ, Bool, List, [], ◌∷◌, Option, Some, None, cond, T, true, false, refl, ap, subst, sym}
use Rattle.std.specs.FinMap.{find, is_sorted}
use Rattle.std.specs.FinMap.Entries.{below_all}
use Rattle.std.specs.List.{AllByRecursion}
use Rattle.std.specs.Ordering.{is_eq, is_lt}
use Rattle.std.specs.declared.cmp.Ordering.{Ordering}
use Rattle.std.specs.declared.cmp.Ordering.TheVariants.{Less, Equal, Greater}
use Rattle.std.proofs.lemmas.Option.{same_Some}
use Rattle.cs_value.specs.Facts.{by_test}
use Rattle.cs_order.specs.Order.{by_bytes, same_bytes}
use Rattle.cs_pending.specs.Spots.{key_is, key_refl}

abbrev pub Listing : Type 0
Listing = List (List ℕ × List ℕ)

apart : (o : Ordering) → T (is_lt o) → is_eq o ≡ false
apart Less h = refl
apart Equal h = absurd h
apart Greater h = absurd h

first : (a b : Bool) → T (a && b) → T a
first true b h = tt
first false b h = absurd h

second : (a b : Bool) → T (a && b) → T b
second true b h = h
second false b h = absurd h

none_below : (key : List ℕ) (rows : Listing) → T (below_all by_bytes key rows) → find by_bytes key rows ≡ None
none_below key [] h = refl
none_below key (row ∷ rows) h = ap (λ (b : Bool). cond b (Some row.1) (find by_bytes key rows)) (apart (by_bytes key row.0) (first _ _ h)) ∙ none_below key rows (second _ _ h)

module _ (P : List ℕ → List ℕ → Type 0) where
  -- what is said of whatever is found is said of each pair
  pub each_found : (rows : Listing) → T (is_sorted by_bytes rows) → ((key body : List ℕ) → find by_bytes key rows ≡ Some body → P key body) → AllByRecursion (λ (row : List ℕ × List ℕ). P row.0 row.1) rows
  each_found [] s h = tt
  each_found (row ∷ rows) s h = (
    h row.0 row.1 (ap (λ (b : Bool). cond b (Some row.1) (find by_bytes row.0 rows)) (key_refl row.0)),
    each_found rows (second _ _ s) (λ key body is. h key body (behind key body is)),
  )
    where
      behind : (key body : List ℕ) → find by_bytes key rows ≡ Some body → find by_bytes key (row ∷ rows) ≡ Some body
      behind key body is =
          by_test (same_bytes key row.0) _
          (λ t. let none = none_below row.0 rows (first _ _ s) in
          let same = ap (λ (k : List ℕ). find by_bytes k rows) (sym (key_is key row.0 t)) in
          absurd (let no : ◌≡◌ {A = Option (List ℕ)} None (Some body) = sym none ∙ same ∙ is in cc))
          (λ t. simp t is)

  -- and the other way round
  pub found_each : (rows : Listing) (key body : List ℕ) → AllByRecursion (λ (row : List ℕ × List ℕ). P row.0 row.1) rows → find by_bytes key rows ≡ Some body → P key body
  found_each [] key body all is = absurd (let no = is in cc)
  found_each (row ∷ rows) key body all is =
      by_test (same_bytes key row.0) _
      (λ t. subst (λ (b : List ℕ). P key b) (same_Some row.1 body (rw t at is)) (subst (λ (k : List ℕ). P k row.1) (sym (key_is key row.0 t)) all.0))
      (λ t. found_each rows key body all.1 (rw t at is))
