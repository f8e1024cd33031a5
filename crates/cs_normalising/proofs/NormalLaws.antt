-- From prepared changes to the normal form.
use Rattle.std.proofs.Common.{◌≡◌, ℕ, Bool, true, ◌&&◌, List, [], ◌∷◌, ◌++◌, Option, Some, None, refl, sym, subst, ap, ◌∙◌}
use Rattle.std.specs.Ordering.{is_lt}
use Rattle.std.specs.Cmp.{eq_by_cmp_equiv}
use Rattle.std.specs.List.{IsDistinct}
use Rattle.std.specs.List.Sorted.{IsStrictlySortedBy, IsPermutation}
use Rattle.std.specs.Map.{keys_of, lookup}
use Rattle.std.proofs.lemmas.List.Sorted.{IsPermutation-map, IsPermutation-sym, Contains-permutation}
use Rattle.std.proofs.lemmas.Map.Keys.{sorted_head, sorted_tail, IsDistinct-from_sorted, IsDistinct-IsPermutation}
use Rattle.std.proofs.lemmas.Map.Views.{Contains-from_lookup, lookup-from_Contains}
use Rattle.std.proofs.lemmas.Cmp.{nat_list_cmp_total}
use Rattle.cs_value.specs.Facts.{by_test}
use Rattle.cs_change.specs.declared.change.Change.{Change}
use Rattle.cs_order.specs.Order.{by_bytes, same_bytes}
use Rattle.cs_order.specs.Facts.{Above, ascend_tells, cons_sorted, same_is}
use Rattle.cs_order.specs.Steps.Rising.{ascend, ascend_from}
use Rattle.cs_normal.specs.keyed.Changes.{Changes, change_at, IsOrdered}
use Rattle.cs_normal.specs.keyed.NormalForm.{AreKeyed}
use Rattle.cs_normal.specs.keyed.Facts.{all_keyed_is, prepared_keys}
use Rattle.cs_normal.specs.keyed.Prepared.{Entries, prepared, all_keyed, kept}
use Rattle.cs_normal.specs.NormalFacts.{none_above}
use Rattle.cs_normalising.specs.Steps.Prepared.{rises, rises_from}

ascending_from : (last : List ℕ) (es : Entries) → rises_from last es ≡ ascend_from last (keys_of es)
unfolding rises_from ascend_from
ascending_from last [] = refl
ascending_from last (e ∷ es) = ap (λ (b : Bool). is_lt (by_bytes last e.0) && b) (ascending_from e.0 es)

pub ascending : (es : Entries) → rises es ≡ ascend (keys_of es)
unfolding rises ascend
ascending [] = refl
ascending (e ∷ es) = ascending_from e.0 es

pub rises_sorted : (es : Entries) → rises es ≡ true → IsStrictlySortedBy by_bytes (keys_of es)
rises_sorted es h = (ascend_tells (keys_of es)).0 (sym (ascending es) ∙ h)

pub kept_append : (es fs : Entries) → kept (es ++ fs) ≡ kept es ++ kept fs
unfolding kept
kept_append [] fs = refl
kept_append ((key, None) ∷ es) fs = kept_append es fs
kept_append ((key, Some change) ∷ es) fs = ap (λ (t : Changes). (key, change) ∷ t) (kept_append es fs)

-- what is kept is in order
kept_above : (key : List ℕ) (es : Entries) → Above key (keys_of es) → Above key (keys_of (kept es))
unfolding kept
kept_above key [] h = tt
kept_above key ((k, None) ∷ es) h = kept_above key es h.1
kept_above key ((k, Some c) ∷ es) h = (h.0, kept_above key es h.1)

pub kept_ordered : (es : Entries) → IsStrictlySortedBy by_bytes (keys_of es) → IsOrdered (kept es)
unfolding kept
kept_ordered [] o = o
kept_ordered ((k, None) ∷ es) o = kept_ordered es (sorted_tail by_bytes k (keys_of es) o)
kept_ordered ((k, Some c) ∷ es) o =
    cons_sorted k (keys_of (kept es)) (kept_above k es (sorted_head by_bytes k (keys_of es) o)) (kept_ordered es (sorted_tail by_bytes k (keys_of es) o))

abbrev pub join : Option (Option Change) → Option Change
join None = None
join (Some change) = change

pub kept_at : (q : List ℕ) (es : Entries) → IsStrictlySortedBy by_bytes (keys_of es) → change_at q (kept es) ≡ join (lookup (same_bytes q) es)
unfolding kept
kept_at q [] o = refl
kept_at q ((k, None) ∷ es) o =
    let rest = kept_at q es (sorted_tail by_bytes k (keys_of es) o) in
    by_test (same_bytes q k) _ (λ e.
    let none : change_at q (kept es) ≡ None = subst (λ (j : List ℕ). change_at j (kept es) ≡ None) (sym (same_is q k e)) (none_above k (kept es) (kept_above k es (sorted_head by_bytes k (keys_of es) o))) in
    simp (e, none) refl) (λ e. simp e rest)
kept_at q ((k, Some c) ∷ es) o =
    let rest = kept_at q es (sorted_tail by_bytes k (keys_of es) o) in
    by_test (same_bytes q k) _ (λ e. simp e refl) (λ e. simp e rest)

-- a list and its permutation find alike
flips : (x y : List ℕ) → same_bytes x y ≡ same_bytes y x
flips x y = (eq_by_cmp_equiv nat_list_cmp_total).symm x y

pub distinct_back : (es fs : Entries) → IsPermutation es fs → IsDistinct same_bytes (keys_of fs) → IsDistinct same_bytes (keys_of es)
distinct_back es fs p d =
    IsDistinct-IsPermutation same_bytes flips (keys_of fs) (keys_of es) (IsPermutation-map (λ (e : List ℕ × Option Change). e.0) fs es (IsPermutation-sym es fs p)) d

pub distinct_on : (es fs : Entries) → IsPermutation es fs → IsDistinct same_bytes (keys_of es) → IsDistinct same_bytes (keys_of fs)
distinct_on es fs p d =
    IsDistinct-IsPermutation same_bytes flips (keys_of es) (keys_of fs) (IsPermutation-map (λ (e : List ℕ × Option Change). e.0) es fs p) d

pub found_alike : (es fs : Entries) → IsPermutation es fs → IsDistinct same_bytes (keys_of es) → IsDistinct same_bytes (keys_of fs) → (q : List ℕ) → lookup (same_bytes q) fs ≡ lookup (same_bytes q) es
found_alike es fs p de df q =
    let laws = eq_by_cmp_equiv nat_list_cmp_total in
    let split : (o : Option (Option Change)) → lookup (same_bytes q) fs ≡ o → lookup (same_bytes q) fs ≡ lookup (same_bytes q) es =
    elim [
      | None ↦ λ e.
          let inner : (o : Option (Option Change)) → lookup (same_bytes q) es ≡ o → lookup (same_bytes q) fs ≡ lookup (same_bytes q) es =
          elim [
            | None ↦ λ i. e ∙ sym i
            | Some v ↦ λ i. lookup-from_Contains laws q v fs df (Contains-permutation es fs (q, v) p (Contains-from_lookup same_is q v es i)) ∙ sym i
          ] in
          inner (lookup (same_bytes q) es) refl
      | Some v ↦ λ e. e ∙ sym (lookup-from_Contains laws q v es de (Contains-permutation fs es (q, v) (IsPermutation-sym es fs p) (Contains-from_lookup same_is q v fs e)))
    ] in
    split (lookup (same_bytes q) fs) refl

-- the whole way
module _ (marks : List Bool) (changes : List Change) (fs : Entries) (p : IsPermutation (prepared marks changes) fs) (up : rises fs ≡ true) where
  pub prepared_distinct : IsDistinct same_bytes (keys_of (prepared marks changes))
  prepared_distinct =
      distinct_back (prepared marks changes) fs p (IsDistinct-from_sorted by_bytes (keys_of fs) (rises_sorted fs up))

  pub are_keyed : all_keyed marks changes ≡ true → AreKeyed marks changes
  are_keyed whole =
      (sym (all_keyed_is marks changes) ∙ whole, subst (IsDistinct same_bytes) (prepared_keys marks changes whole) prepared_distinct)
