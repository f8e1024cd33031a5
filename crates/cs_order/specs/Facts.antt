-- Equal keys, keys that rise, and the places of a key. Crates above cite it.
use Rattle.std.proofs.Common.{◌≡◌, ℕ, ◌<◌, Bool, true, false, ◌&&◌, List, [], ◌∷◌, length, refl, sym, ◌∙◌, arith}
use Rattle.std.specs.Prelude.{◌↔◌}
use Rattle.std.specs.Cmp.{Equal-is}
use Rattle.std.specs.Ordering.{is_eq, is_lt}
use Rattle.std.specs.declared.cmp.Ordering.{Ordering}
use Rattle.std.specs.declared.cmp.Ordering.TheVariants.{Less, Equal, Greater}
use Rattle.std.specs.List.{All, AllByRecursion, Contains}
use Rattle.std.specs.List.Sorted.{IsStrictlySortedBy}
use Rattle.std.proofs.lemmas.Cmp.{nat_list_cmp_total}
use Rattle.std.proofs.lemmas.List.{get_or_default}
use Rattle.std.proofs.lemmas.List.Elements.{All-filter, filter_passes}
use Rattle.std.proofs.lemmas.List.FromFn.{get_or-range_with_len, length-range_with_len}
use Rattle.std.proofs.lemmas.Map.Keys.{sorted_head, sorted_tail}
use Rattle.std.proofs.lemmas.Map.Lookups.{exact_bytes}
use Rattle.cs_order.specs.Groups.{has_bytes, places_of}
use Rattle.cs_order.specs.Order.{Keys, by_bytes, key_at, places, same_bytes}
use Rattle.cs_order.specs.Steps.Rising.{ascend, ascend_from}

pub same_is : (x y : List ℕ) → same_bytes x y ≡ true → x ≡ y
same_is x y e = exact_bytes x y ((Equal-is (by_bytes x y)).0 e)

pub both_true : (a b : Bool) → (a && b) ≡ true → (a ≡ true) × (b ≡ true)
both_true true b h = (refl, h)
both_true false b h = (cc, cc)

pub equal_from : (o : Ordering) → is_eq o ≡ true → o ≡ Equal
equal_from Less h = absurd cc
equal_from Equal h = refl
equal_from Greater h = absurd cc

lt_is : (o : Ordering) → is_lt o ≡ true → o ≡ Less
lt_is Less e = refl
lt_is Equal e = cc
lt_is Greater e = cc

abbrev pub Above : List ℕ → Keys → Type 0
Above key keys = AllByRecursion (λ other. by_bytes key other ≡ Less) keys

pub above_more : (low key : List ℕ) (keys : Keys) → by_bytes low key ≡ Less → Above key keys → Above low keys
above_more low key [] e h = tt
above_more low key (k ∷ keys) e h =
    (nat_list_cmp_total.trans low key k e h.0, above_more low key keys e h.1)

pub cons_sorted : (key : List ℕ) (keys : Keys) → Above key keys → IsStrictlySortedBy by_bytes keys → IsStrictlySortedBy by_bytes (key ∷ keys)
unfolding IsStrictlySortedBy
cons_sorted key keys h o = (h, o)

no_keys_sorted : IsStrictlySortedBy by_bytes []
unfolding IsStrictlySortedBy
no_keys_sorted = tt

-- ---- keys that rise are in order

above_all : (key : List ℕ) (keys : Keys) → ascend_from key keys ≡ true → Above key keys × IsStrictlySortedBy by_bytes keys
unfolding ascend_from
above_all key [] h = (tt, no_keys_sorted)
above_all key (k ∷ keys) h =
    let parts = both_true (is_lt (by_bytes key k)) (ascend_from k keys) h in
    let less = lt_is (by_bytes key k) parts.0 in
    let rest = above_all k keys parts.1 in
    ((less, above_more key k keys less rest.0), cons_sorted k keys rest.0 rest.1)

ascend_sorted : (keys : Keys) → ascend keys ≡ true → IsStrictlySortedBy by_bytes keys
unfolding ascend
ascend_sorted [] h = no_keys_sorted
ascend_sorted (k ∷ keys) h =
    let rest = above_all k keys h in cons_sorted k keys rest.0 rest.1

sorted_ascend_from : (key : List ℕ) (keys : Keys) → IsStrictlySortedBy by_bytes (key ∷ keys) → ascend_from key keys ≡ true
unfolding ascend_from
sorted_ascend_from key [] o = refl
sorted_ascend_from key (k ∷ keys) o =
    let head = sorted_head by_bytes key (k ∷ keys) o in
    let rest = sorted_ascend_from k keys (sorted_tail by_bytes key (k ∷ keys) o) in
    rw (head.0, rest) refl

sorted_ascend : (keys : Keys) → IsStrictlySortedBy by_bytes keys → ascend keys ≡ true
unfolding ascend
sorted_ascend [] o = refl
sorted_ascend (k ∷ keys) o = sorted_ascend_from k keys o

pub ascend_tells : (keys : Keys) → (ascend keys ≡ true) ↔ IsStrictlySortedBy by_bytes keys
ascend_tells keys = (ascend_sorted keys, sorted_ascend keys)

-- ---- the places of a key

pub places_within : (keys : Keys) → All (λ place. place < length keys) (places keys)
places_within keys k d less =
    let n = length-range_with_len 0 (length keys) in
    let at : k < length keys = omega (arith, less, n) in
    omega (arith, get_or-range_with_len 0 (length keys) k d at, at)

-- the first place of a key holds it
pub first_place : (keys : Keys) (q : List ℕ) (p : ℕ) (ps : List ℕ) → places_of keys q ≡ p ∷ ps → (q ≡ key_at keys p) × (p < length keys)
first_place keys q p ps is =
    let passes : All (λ x. has_bytes keys q x ≡ true) (p ∷ ps) = rw is at (filter_passes (has_bytes keys q) (places keys)) in
    let within : All (λ x. x < length keys) (p ∷ ps) = rw is at (All-filter (has_bytes keys q) (λ x. x < length keys) (places keys) (places_within keys)) in
    (same_is q (key_at keys p) (passes 0 p (omega arith)), within 0 p (omega arith))

-- a key that isn't there has none
pub no_places : (keys : Keys) (q : List ℕ) (ps : List ℕ) → (Contains keys q → ⊥) → places_of keys q ≡ ps → places_of keys q ≡ []
no_places keys q [] missing is = is
no_places keys q (p ∷ ps) missing is =
    let first = first_place keys q p ps is in
    absurd (missing (p, first.1, get_or_default keys p q [] first.1 ∙ sym first.0))
