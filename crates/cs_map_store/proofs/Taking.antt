-- Leaves out of which some are taken to be amended.
use Rattle.std.proofs.Common.{◌≡◌, ℕ, zero, suc, ◌<◌, ◌≤◌, inl, inr, true, false, List, [], ◌∷◌, ◌++◌, refl, sym, ap, subst, ◌∙◌, length, drop, arith, ⊎_elim}
use Rattle.std.specs.Prelude.{slice_set, ◌⊎◌}
use Rattle.std.proofs.Math.Dec.{eqb}
use borrow.Author.Tests.{eqb-true, eqb-false}
use Rattle.std.specs.Ordering.{is_gt}
use Rattle.cs_store.specs.Contents.{StorePlace, place_cmp}
use Rattle.cs_leaf.specs.Entries.{Entry, nth}
use Rattle.cs_leaf.specs.Edits.{store_place}
use Rattle.cs_map_store.specs.Leaves.{AreBefore, BeginsBy, ReachLeaf, nth_leaf, patched, restored, undone}
use Rattle.cs_map_store.specs.declared.leaves.Patch.{Patch}
use Rattle.cs_store.specs.edits.Edits.{BodyEdit}
use Rattle.cs_map_store.proofs.Leafing.{nth_later, patched_push}

pub set_set : (leaves : List (List Entry)) (at : ℕ) (x y : List Entry) → slice_set (slice_set leaves at x) at y ≡ slice_set leaves at y
set_set [] at x y = refl
set_set (l ∷ ls) zero x y = refl
set_set (l ∷ ls) (suc at) x y = ap (λ (ks : List (List Entry)). l ∷ ks) (set_set ls at x y)

pub set_own : (leaves : List (List Entry)) (at : ℕ) → at < length leaves → slice_set leaves at (nth_leaf leaves at) ≡ leaves
set_own [] at h = refl
set_own (l ∷ ls) zero h = refl
set_own (l ∷ ls) (suc at) h = ap (λ (ks : List (List Entry)). l ∷ ks) (set_own ls at (omega (arith, h)))

set_swap : (leaves : List (List Entry)) (a b : ℕ) (x y : List Entry) → (a ≡ b → ⊥) → slice_set (slice_set leaves a x) b y ≡ slice_set (slice_set leaves b y) a x
set_swap [] a b x y apart = refl
set_swap (l ∷ ls) zero zero x y apart = absurd (apart refl)
set_swap (l ∷ ls) zero (suc b) x y apart = refl
set_swap (l ∷ ls) (suc a) zero x y apart = refl
set_swap (l ∷ ls) (suc a) (suc b) x y apart = ap (λ (ks : List (List Entry)). l ∷ ks) (set_swap ls a b x y (λ e. apart (ap suc e)))

-- what stood there doesn't matter where it is set behind
through : (ps : List Patch) (leaves : List (List Entry)) (at : ℕ) (x y : List Entry) → slice_set (patched (slice_set leaves at x) ps) at y ≡ slice_set (patched leaves ps) at y
through [] leaves at x y = set_set leaves at x y
through (p ∷ ps) leaves at x y = elim (eqb at p.at) as (λ b. eqb at p.at ≡ b → slice_set (patched (slice_set leaves at x) (p ∷ ps)) at y ≡ slice_set (patched leaves (p ∷ ps)) at y) [
  | true ↦ λ e.
      let same = eqb-true at p.at e in
      ap (λ (ls : List (List Entry)). slice_set (patched ls ps) at y) (ap (λ k. slice_set (slice_set leaves k x) p.at p.change.1) same ∙ set_set leaves p.at x p.change.1)
  | false ↦ λ e.
      ap (λ (ls : List (List Entry)). slice_set (patched ls ps) at y) (set_swap leaves at p.at x p.change.1 (eqb-false at p.at e))
      ∙ through ps (slice_set leaves p.at p.change.1) at x y
] refl

-- ---- one leaf that a change takes out

back_again : (leaves : List (List Entry)) (at : ℕ) (leaf : List Entry) → at < length leaves → leaf ≡ nth_leaf leaves at → slice_set (slice_set leaves at []) at leaf ≡ leaves
back_again leaves at leaf less of = set_set leaves at [] leaf ∙ ap (slice_set leaves at) of ∙ set_own leaves at less

pub restored_push : (ps : List Patch) (leaves : List (List Entry)) (p : Patch) → restored leaves (ps ++ p ∷ []) ≡ restored (undone leaves p) ps
restored_push [] leaves p = refl
restored_push (q ∷ qs) leaves p = ap (λ (ls : List (List Entry)). undone ls q) (restored_push qs leaves p)

-- a patch more, for a leaf as it stands
pub restored_more : (leaves now new : List (List Entry)) (ps all : List Patch) (p : Patch) → p.at < length now → new ≡ slice_set now p.at [] → p.change.0 ≡ nth_leaf now p.at
    → all ≡ ps ++ p ∷ [] → restored now ps ≡ leaves → restored new all ≡ leaves
restored_more leaves now new ps all p less is of grown was =
    (λ i. restored (is i) (grown i)) ∙ restored_push ps (slice_set now p.at []) p
    ∙ ap (λ (ls : List (List Entry)). restored ls ps) (back_again now p.at p.change.0 less of) ∙ was

pub patched_more : (leaves now new : List (List Entry)) (ps all : List Patch) (p : Patch) → new ≡ slice_set now p.at [] → all ≡ ps ++ p ∷ []
    → patched now ps ≡ patched leaves ps → patched new all ≡ patched leaves all
patched_more leaves now new ps all p is grown was =
    (λ i. patched (is i) (grown i)) ∙ patched_push ps (slice_set now p.at []) p ∙ through ps now p.at [] p.change.1
    ∙ ap (λ (ls : List (List Entry)). slice_set ls p.at p.change.1) was ∙ sym (patched_push ps leaves p) ∙ ap (patched leaves) (sym grown)

-- ---- leaves that are the same from one place on

pub begins_same : (now leaves : List (List Entry)) (from at : ℕ) (p : StorePlace) → from ≤ at → drop from now ≡ drop from leaves → BeginsBy leaves at p → BeginsBy now at p
begins_same now leaves from at p le same by = subst (λ (l : List Entry). (at ≡ 0) ⊎ (is_gt (place_cmp (nth l 0).0 p) ≡ false)) (sym (nth_later now leaves from at le same)) by

pub before_same : (now leaves : List (List Entry)) (from at : ℕ) (vs : List BodyEdit) → from ≤ at → length now ≡ length leaves → drop from now ≡ drop from leaves → AreBefore now at vs → AreBefore leaves at vs
before_same now leaves from at [] le long same h = tt
before_same now leaves from at (v ∷ vs) le long same h = (
  ⊎_elim (λ e. inl (e ∙ long)) (λ g. inr (subst (λ (l : List Entry). is_gt (place_cmp (nth l 0).0 (store_place v)) ≡ true) (nth_later now leaves from at le same) g)) h.0,
  before_same now leaves from at vs le long same h.1,
)

pub reach_same : (now leaves : List (List Entry)) (from at : ℕ) (vs : List BodyEdit) → from ≤ at → length now ≡ length leaves → drop from now ≡ drop from leaves → ReachLeaf now at vs → ReachLeaf leaves at vs
reach_same now leaves from at [] le long same h = tt
reach_same now leaves from at (v ∷ vs) le long same h = (
  omega (arith, h.0, long),
  subst (λ (l : List Entry). is_gt (place_cmp (nth l 0).0 (store_place v)) ≡ false) (nth_later now leaves from at le same) h.1,
)

pub begins_back : (now leaves : List (List Entry)) (from at : ℕ) (p : StorePlace) → from ≤ at → drop from now ≡ drop from leaves → BeginsBy now at p → BeginsBy leaves at p
begins_back now leaves from at p le same by = begins_same leaves now from at p le (sym same) by
