-- What stands at a place.
use Rattle.std.proofs.Common.{◌≡◌, ℕ, ◌+◌, ◌-◌, ◌<◌, ◌≤◌, true, false, cond, List, [], ◌∷◌, ◌++◌, Some, None, refl, sym, ap, subst, ◌∙◌, T, length, take, drop, arith, ⊎_elim}
use Rattle.std.specs.Cmp.{eq_by_cmp_equiv}
use Rattle.std.proofs.Math.Dec.{ltb}
use borrow.Author.Tests.{ltb-true, ltb-false}
use Rattle.std.specs.declared.cmp.Ordering.TheVariants.{Equal}
use Rattle.std.specs.Ordering.{is_eq, is_lt, eq_by_cmp, ordering_reverse}
use Rattle.std.specs.FinMap.{find, is_sorted}
use Rattle.std.specs.FinMap.Entries.{below_all}
use Rattle.std.proofs.lemmas.List.{take-append-drop, drop_more, drop_all}
use Rattle.cs_store.specs.Contents.{StorePlace, place_cmp}
use Rattle.cs_leaf.specs.Entries.{Entry, no_entry, nth, IsPlaceFor}
use Rattle.cs_leaf.specs.Edits.{AreBelow}
use Rattle.cs_leaf.proofs.Places.{place_total, place_exact}
use Rattle.cs_leaf.proofs.Editing.{first, second, less, sorted_back, run_below, above_head, not_both}

find_behind : (xs ys : List Entry) (p : StorePlace) → AreBelow xs p → find place_cmp p (xs ++ ys) ≡ find place_cmp p ys
find_behind [] ys p h = refl
find_behind (x ∷ xs) ys p h = ap (λ o. cond (is_eq o) (Some x.1) (find place_cmp p (xs ++ ys))) (place_total.antisymm p x.0 ∙ ap ordering_reverse h.0) ∙ find_behind xs ys p h.1

find_above : (ys : List Entry) (p : StorePlace) → T (below_all place_cmp p ys) → find place_cmp p ys ≡ None
find_above [] p h = refl
find_above (y ∷ ys) p h = ap (λ o. cond (is_eq o) (Some y.1) (find place_cmp p ys)) (less _ (first _ _ h)) ∙ find_above ys p (second _ _ h)

from_place : (leaf : List Entry) (at : ℕ) (p : StorePlace) → at ≤ length leaf → T (is_sorted place_cmp leaf) → IsPlaceFor leaf 0 at p → find place_cmp p leaf ≡ find place_cmp p (drop at leaf)
from_place leaf at p within s found =
    let n : at - 0 ≡ at = omega arith in
    let low : AreBelow (take at leaf) p = subst (λ k. AreBelow (take k leaf) p) n (run_below leaf 0 at p (omega arith) within s found) in
    ap (find place_cmp p) (sym (take-append-drop at leaf)) ∙ find_behind (take at leaf) (drop at leaf) p low

pub find_there : (leaf : List Entry) (at : ℕ) (p : StorePlace) → at < length leaf → T (is_sorted place_cmp leaf) → IsPlaceFor leaf 0 at p → place_cmp (nth leaf at).0 p ≡ Equal → find place_cmp p leaf ≡ Some (nth leaf at).1
find_there leaf at p less s found e =
    from_place leaf at p (omega (arith, less)) s found ∙ ap (find place_cmp p) (drop_more leaf at no_entry less)
    ∙ ap (λ b. cond b (Some (nth leaf at).1) (find place_cmp p (drop (at + 1) leaf))) (ap (eq_by_cmp place_cmp p) (place_exact (nth leaf at).0 p e) ∙ (eq_by_cmp_equiv place_total).refl p)

pub find_nothing : (leaf : List Entry) (at : ℕ) (p : StorePlace) → at ≤ length leaf → T (is_sorted place_cmp leaf) → IsPlaceFor leaf 0 at p → (at < length leaf → is_eq (place_cmp (nth leaf at).0 p) ≡ false) → find place_cmp p leaf ≡ None
find_nothing leaf at p within s found apart = from_place leaf at p within s found ∙ elim (ltb at (length leaf)) as (λ b. ltb at (length leaf) ≡ b → find place_cmp p (drop at leaf) ≡ None) [
  | false ↦ λ e. ap (find place_cmp p) (drop_all at leaf (ltb-false at (length leaf) e))
  | true ↦ λ e. above (ltb-true at (length leaf) e)
] refl
  where
    above : at < length leaf → find place_cmp p (drop at leaf) ≡ None
    above less =
        let here : drop at leaf ≡ nth leaf at ∷ drop (at + 1) leaf = drop_more leaf at no_entry less in
        let cut : T (is_sorted place_cmp (drop at leaf)) = sorted_back (take at leaf) (drop at leaf) (subst (λ zs. T (is_sorted place_cmp zs)) (sym (take-append-drop at leaf)) s) in
        let notless : is_lt (place_cmp (nth leaf at).0 p) ≡ false = ⊎_elim (λ e. absurd (omega (arith, e, less))) (λ h. h) found.1 in
        ap (find place_cmp p) here ∙ find_above (nth leaf at ∷ drop (at + 1) leaf) p
        (above_head (nth leaf at) (drop (at + 1) leaf) p (subst (λ zs. T (is_sorted place_cmp zs)) here cut) (not_both _ notless (apart less)))
