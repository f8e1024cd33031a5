-- Finite maps at places and at names.
use Rattle.std.proofs.Common.{◌≡◌, ℕ, Bool, true, false, cond, ◌&&◌, List, [], ◌∷◌, map, Option, Some, None, refl, sym, ap, subst, ◌∙◌, T}
use Rattle.std.specs.Prelude.{ℤ, fold}
use Rattle.std.specs.declared.cmp.Ordering.{Ordering}
use Rattle.std.specs.declared.cmp.Ordering.TheVariants.{Less, Equal, Greater}
use Rattle.std.specs.Ordering.{is_eq, is_lt, eq_by_cmp, int_cmp, int_eq, nat_cmp, ordering_then}
use Rattle.std.specs.Cmp.{IsTotalOrder, eq_by_cmp_equiv}
use Rattle.std.specs.Cmp.Lexicographic.{slice_cmp}
use Rattle.std.specs.List.{filter}
use Rattle.std.specs.FinMap.{IsAntisymmetric, get, find, get-insert, get-remove, same_map, entries, get-entries, entries_sorted, is_sorted, get-from_entries}
use Rattle.std.specs.FinMap.Entries.{below_all, same_entries}
use Rattle.std.proofs.lemmas.Cmp.{int_cmp_total, nat_list_cmp_total, then_total, on_total}
use Rattle.std.proofs.lemmas.Map.Lookups.{exact_pairs, exact_signed, exact_bytes}
use Rattle.cs_store.specs.Contents.{StorePlace, Bodies, Meta, place_cmp, name_text}
use Rattle.cs_store.specs.Written.{with_body, with_meta, edit_meta, optional_bytes}
use Rattle.cs_map_store.specs.Slots.{listed, meta_of, meta_table, write_to, meta_write}
use Rattle.cs_store.specs.declared.batch.MetaEdit.{MetaEdit}

pub place_total : IsTotalOrder place_cmp
place_total = then_total (on_total (λ (p : StorePlace). p.0) int_cmp_total) (on_total (λ (p : StorePlace). p.1) nat_list_cmp_total)

pub place_exact : IsAntisymmetric place_cmp
place_exact = exact_pairs int_cmp (slice_cmp nat_cmp) exact_signed exact_bytes

pub get-with_body : (m : Bodies) (p : StorePlace) (w : Option (List ℕ)) (q : StorePlace) → get (with_body m p w) q ≡ cond (eq_by_cmp place_cmp q p) w (get m q)
get-with_body m p None q = get-remove place_total m p q
get-with_body m p (Some v) q = get-insert place_total m p v q

pub get-with_meta : (m : Meta) (p : List ℕ) (w : Option (List ℕ)) (q : List ℕ) → get (with_meta m p w) q ≡ cond (eq_by_cmp (slice_cmp nat_cmp) q p) w (get m q)
get-with_meta m p None q = get-remove nat_list_cmp_total m p q
get-with_meta m p (Some v) q = get-insert nat_list_cmp_total m p v q

-- ---- the entries of one table

pub not_equal : (o r : Ordering) → is_eq o ≡ false → is_eq (ordering_then o r) ≡ false
not_equal Less r h = refl
not_equal Equal r h = absurd cc
not_equal Greater r h = refl

pub after_equal : (o r : Ordering) → is_eq o ≡ true → ordering_then o r ≡ r
after_equal Less r h = absurd cc
after_equal Equal r h = refl
after_equal Greater r h = absurd cc

int_eq_turn : (a b : ℤ) → int_eq a b ≡ int_eq b a
int_eq_turn a b = (eq_by_cmp_equiv int_cmp_total).symm a b

-- the value at a key among a table's entries
find_listed : (t : ℤ) (k : List ℕ) (es : List (StorePlace × List ℕ))
    → find (slice_cmp nat_cmp) k (map (λ (e : StorePlace × List ℕ). (e.0.1, e.1)) (filter (λ (e : StorePlace × List ℕ). int_eq e.0.0 t) es)) ≡ find place_cmp (t, k) es
find_listed t k [] = refl
find_listed t k (e ∷ es) =
    elim (int_eq e.0.0 t) as (λ b. int_eq e.0.0 t ≡ b
    → find (slice_cmp nat_cmp) k (map (λ (e : StorePlace × List ℕ). (e.0.1, e.1)) (cond b (e ∷ filter (λ (e : StorePlace × List ℕ). int_eq e.0.0 t) es) (filter (λ (e : StorePlace × List ℕ). int_eq e.0.0 t) es)))
    ≡ cond (eq_by_cmp place_cmp (t, k) e.0) (Some e.1) (find place_cmp (t, k) es)) [
      | true ↦ λ p. (λ i. cond (is_eq (sym (after_equal (int_cmp t e.0.0) (slice_cmp nat_cmp k e.0.1) (int_eq_turn t e.0.0 ∙ p)) i)) (Some e.1) (find_listed t k es i))
      | false ↦ λ p. (λ i. cond (sym (not_equal (int_cmp t e.0.0) (slice_cmp nat_cmp k e.0.1) (int_eq_turn t e.0.0 ∙ p)) i) (Some e.1) (find_listed t k es i))
    ] refl

pub find-listed : (t : ℤ) (k : List ℕ) (m : Bodies) → find (slice_cmp nat_cmp) k (listed t m) ≡ get m (t, k)
find-listed t k m = find_listed t k (entries m) ∙ sym (get-entries m (t, k))

-- ---- the entries of one table are in order

both : (a b : Bool) → T a → T b → T (a && b)
both true b p q = q
both false b p q = p

first : (a b : Bool) → T (a && b) → T a
first true b p = tt
first false b p = p

second : (a b : Bool) → T (a && b) → T b
second true b p = p
second false b p = absurd p

-- the keys of a table's entries are in order
below_listed : (t : ℤ) (p : StorePlace) → int_eq p.0 t ≡ true → (es : List (StorePlace × List ℕ)) → T (below_all place_cmp p es)
    → T (below_all (slice_cmp nat_cmp) p.1 (map (λ (e : StorePlace × List ℕ). (e.0.1, e.1)) (filter (λ (e : StorePlace × List ℕ). int_eq e.0.0 t) es)))
below_listed t p h [] s = tt
below_listed t p h (e ∷ es) s =
    elim (int_eq e.0.0 t) as (λ b. int_eq e.0.0 t ≡ b
    → T (below_all (slice_cmp nat_cmp) p.1 (map (λ (e : StorePlace × List ℕ). (e.0.1, e.1)) (cond b (e ∷ filter (λ (e : StorePlace × List ℕ). int_eq e.0.0 t) es) (filter (λ (e : StorePlace × List ℕ). int_eq e.0.0 t) es))))) [
      | true ↦ λ q. both _ _
          (subst (λ o. T (is_lt o)) (after_equal (int_cmp p.0 e.0.0) (slice_cmp nat_cmp p.1 e.0.1) ((eq_by_cmp_equiv int_cmp_total).congr p.0 t e.0.0 h ∙ int_eq_turn t e.0.0 ∙ q)) (first _ _ s))
          (below_listed t p h es (second _ _ s))
      | false ↦ λ q. below_listed t p h es (second _ _ s)
    ] refl

sorted_listed : (t : ℤ) (es : List (StorePlace × List ℕ)) → T (is_sorted place_cmp es)
    → T (is_sorted (slice_cmp nat_cmp) (map (λ (e : StorePlace × List ℕ). (e.0.1, e.1)) (filter (λ (e : StorePlace × List ℕ). int_eq e.0.0 t) es)))
sorted_listed t [] s = tt
sorted_listed t (e ∷ es) s =
    elim (int_eq e.0.0 t) as (λ b. int_eq e.0.0 t ≡ b
    → T (is_sorted (slice_cmp nat_cmp) (map (λ (e : StorePlace × List ℕ). (e.0.1, e.1)) (cond b (e ∷ filter (λ (e : StorePlace × List ℕ). int_eq e.0.0 t) es) (filter (λ (e : StorePlace × List ℕ). int_eq e.0.0 t) es))))) [
      | true ↦ λ q. both _ _ (below_listed t e.0 q es (first _ _ s)) (sorted_listed t es (second _ _ s))
      | false ↦ λ q. sorted_listed t es (second _ _ s)
    ] refl

pub listed_sorted : (t : ℤ) (m : Bodies) → T (is_sorted (slice_cmp nat_cmp) (listed t m))
listed_sorted t m = sorted_listed t (entries m) (entries_sorted m)

-- a list in order that finds what a table has is the table's
pub listed_is : (t : ℤ) (m : Bodies) (es : List (List ℕ × List ℕ)) → T (is_sorted (slice_cmp nat_cmp) es) → ((k : List ℕ) → find (slice_cmp nat_cmp) k es ≡ get m (t, k)) → es ≡ listed t m
listed_is t m es s finds = same_entries (slice_cmp nat_cmp) nat_list_cmp_total exact_bytes es (listed t m) s (listed_sorted t m) (λ k. finds k ∙ sym (find-listed t k m))

-- ---- rows and meta of one map

pub get-meta_of : (c : Bodies) (k : List ℕ) → get (meta_of c) k ≡ get c (meta_table, k)
unfolding meta_of
get-meta_of c k = get-from_entries nat_list_cmp_total (listed meta_table c) k ∙ find-listed meta_table k c

pub meta_of_meta : (c : Bodies) (n : List ℕ) (w : Option (List ℕ)) → meta_of (with_body c (meta_table, n) w) ≡ with_meta (meta_of c) n w
meta_of_meta c n w = same_map nat_list_cmp_total exact_bytes _ _ (λ k.
    get-meta_of (with_body c (meta_table, n) w) k ∙ get-with_body c (meta_table, n) w (meta_table, k)
    ∙ sym (get-with_meta (meta_of c) n w k ∙ ap (cond (eq_by_cmp (slice_cmp nat_cmp) k n) w) (get-meta_of c k)))

-- ---- a batch

pub meta_after_meta : (c : Bodies) (es : List MetaEdit) → meta_of (fold write_to c (map meta_write es)) ≡ fold edit_meta (meta_of c) es
meta_after_meta c [] = refl
meta_after_meta c (e ∷ es) = meta_after_meta (write_to c (meta_write e)) es ∙ ap (λ m. fold edit_meta m es) (meta_of_meta c (name_text e.name) (optional_bytes e.value))
