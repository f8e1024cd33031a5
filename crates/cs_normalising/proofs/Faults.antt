-- The first change that has no key, or a key that an earlier one has.
use Rattle.std.proofs.Common.{◌≡◌, ◌⊎◌, ℕ, ◌+◌, Bool, true, false, List, [], ◌∷◌, ◌++◌, map, Option, refl, subst, ap, ◌∙◌, arith, inl, inr, append-nil, append_assoc}
use native.Mathlib.Numerals.{unary_clauses}
use Rattle.std.specs.Ordering.{is_eq, is_lt}
use Rattle.std.specs.declared.cmp.Ordering.{Ordering}
use Rattle.std.specs.declared.cmp.Ordering.TheVariants.{Less, Equal, Greater}
use Rattle.std.specs.Cmp.{eq_by_cmp_equiv}
use Rattle.std.specs.List.{IsDistinct, list_all, list_any}
use Rattle.std.specs.List.Sorted.{IsSortedBy}
use Rattle.std.specs.Map.{keys_of}
use Rattle.std.proofs.lemmas.Map.Keys.{IsDistinct-head, IsDistinct-tail, IsDistinct-push}
use Rattle.std.proofs.lemmas.List.Folds.{list_all-append}
use Rattle.std.proofs.lemmas.Cmp.{nat_list_cmp_total}
use Rattle.cs_value.specs.Facts.{by_test}
use Rattle.cs_change.specs.declared.change.Change.{Change}
use Rattle.cs_normalising.specs.declared.unfit.Unfit.TheVariants.{KeyTwice, NullKey}
use Rattle.cs_order.specs.Order.{by_bytes, same_bytes}
use Rattle.cs_normal.specs.keyed.NormalForm.{has_key, change_bytes, AreKeyed}
use Rattle.cs_normalising.specs.UnfitChanges.{HasFirstUnfitChange}
use Rattle.cs_normal.specs.keyed.Prepared.{Entries, prepared, all_keyed}
use Rattle.cs_normalising.specs.Steps.Prepared.{rises, rises_from, is_below}

-- changes with keys, and one without
record NullAt (marks : List Bool) (changes : List Change) : Type 0 where
  before : List Change
  change : Change
  others : List Change
  is : changes ≡ before ++ change ∷ others
  set : list_all (has_key marks) before ≡ true
  bytes : keys_of (prepared marks changes) ≡ map (change_bytes marks) before
  null : has_key marks change ≡ false

null_at : (marks : List Bool) (changes : List Change) → all_keyed marks changes ≡ false → NullAt marks changes
unfolding prepared all_keyed
null_at marks [] h = cc
null_at marks (c ∷ changes) h =
    by_test (has_key marks c) _ (λ e.
    let h' : all_keyed marks changes ≡ false = simp e at h in
    let rest = null_at marks changes h' in
    record { before = c ∷ rest.before; change = rest.change; others = rest.others; is = ap (λ (t : List Change). c ∷ t) rest.is; set = simp e rest.set; bytes = simp e (ap (λ (t : List (List ℕ)). change_bytes marks c ∷ t) rest.bytes); null = rest.null }) (λ e.
    record { before = []; change = c; others = changes; is = refl; set = refl; bytes = simp e refl; null = e })

pub null_fault : (marks : List Bool) (changes : List Change) → all_keyed marks changes ≡ false → IsDistinct same_bytes (keys_of (prepared marks changes)) → HasFirstUnfitChange NullKey marks changes
null_fault marks changes h d =
    let n = null_at marks changes h in
    (n.before, n.change, n.others, n.is, (n.set, subst (IsDistinct same_bytes) n.bytes d), n.null)

pub map_append : (marks : List Bool) (xs ys : List Change) → map (change_bytes marks) (xs ++ ys) ≡ map (change_bytes marks) xs ++ map (change_bytes marks) ys
map_append marks [] ys = refl
map_append marks (x ∷ xs) ys =
    ap (λ (t : List (List ℕ)). change_bytes marks x ∷ t) (map_append marks xs ys)

-- the keys are distinct, or there is a first one that an earlier change has
twice_from : (marks : List Bool) (before changes : List Change) → AreKeyed marks before → IsDistinct same_bytes (map (change_bytes marks) before ++ keys_of (prepared marks changes)) ⊎ HasFirstUnfitChange KeyTwice marks (before ++ changes)
unfolding prepared
twice_from marks before [] k = inl (rw append-nil k.1)
twice_from marks before (c ∷ changes) k =
    by_test (has_key marks c) _ (λ e.
    by_test (list_any (same_bytes (change_bytes marks c)) (map (change_bytes marks) before)) _ (λ f.
    inr (before, c, changes, refl, k, (e, f))) (λ f.
    let pushed = IsDistinct-push (eq_by_cmp_equiv nat_list_cmp_total) (map (change_bytes marks) before) (change_bytes marks c) k.1 f in
    let set : list_all (has_key marks) (before ++ c ∷ []) ≡ true = rw (list_all-append (has_key marks) before (c ∷ []), k.0) (simp e refl) in
    let keyed : AreKeyed marks (before ++ c ∷ []) = (set, rw (map_append marks before (c ∷ [])) pushed) in
    let rest = twice_from marks (before ++ c ∷ []) changes keyed in
    simp e (rw (map_append marks before (c ∷ []), append_assoc, append_assoc) at rest))) (λ e. simp e (inl (rw append-nil k.1)))

pub twice : (marks : List Bool) (changes : List Change) → IsDistinct same_bytes (keys_of (prepared marks changes)) ⊎ HasFirstUnfitChange KeyTwice marks changes
unfolding IsDistinct
twice marks changes = twice_from marks [] changes (refl, tt)

-- what is in order and has distinct keys rises
below : (x y : List ℕ) → is_lt (by_bytes y x) ≡ false → same_bytes x y ≡ false → by_bytes x y ≡ Less
below x y not_less apart =
    let turned = nat_list_cmp_total.antisymm y x in
    let split : (o : Ordering) → by_bytes x y ≡ o → by_bytes x y ≡ Less = elim [
      | Less ↦ λ e. e
      | Equal ↦ λ e. (let s : same_bytes x y ≡ true = ap is_eq e in cc)
      | Greater ↦ λ e. (let t : by_bytes y x ≡ Less = turned ∙ simp e refl in let s : is_lt (by_bytes y x) ≡ true = ap is_lt t in cc)
    ] in
    split (by_bytes x y) refl

sorted_rest : (x : List ℕ × Option Change) (xs : Entries) → IsSortedBy is_below (x ∷ xs) → IsSortedBy is_below xs
sorted_rest x xs up k d low high =
    let h = up (k + 1) d (omega arith) (omega arith) in simp unary_clauses (simp unary_clauses at h)

rises_behind : (x : List ℕ × Option Change) (xs : Entries) → IsSortedBy is_below (x ∷ xs) → IsDistinct same_bytes (keys_of (x ∷ xs)) → rises_from x.0 xs ≡ true
unfolding rises_from
rises_behind x [] up d = refl
rises_behind x (y ∷ xs) up d =
    let first : is_lt (by_bytes y.0 x.0) ≡ false = up 0 x (omega arith) (omega arith) in
    let apart = IsDistinct-head same_bytes x.0 (keys_of (y ∷ xs)) d in
    let less : by_bytes x.0 y.0 ≡ Less = below x.0 y.0 first apart.0 in
    let rest = rises_behind y xs (sorted_rest x (y ∷ xs) up) (IsDistinct-tail same_bytes x.0 (keys_of (y ∷ xs)) d) in
    simp less rest

pub sorted_rises : (xs : Entries) → IsSortedBy is_below xs → IsDistinct same_bytes (keys_of xs) → rises xs ≡ true
unfolding rises
sorted_rises [] up d = refl
sorted_rises (x ∷ xs) up d = rises_behind x xs up d

pub none_twice : (marks : List Bool) (changes : List Change) → (IsDistinct same_bytes (keys_of (prepared marks changes)) → ⊥) → HasFirstUnfitChange KeyTwice marks changes
none_twice marks changes never =
    let split : (IsDistinct same_bytes (keys_of (prepared marks changes)) ⊎ HasFirstUnfitChange KeyTwice marks changes) → HasFirstUnfitChange KeyTwice marks changes =
    elim [ inl d ↦ absurd (never d) | inr f ↦ f ] in
    split (twice marks changes)
