-- A key sought by halves.
use Rattle.std.proofs.Common.{◌≡◌, ℕ, ◌+◌, ◌<◌, ◌≤◌, List, [], length, suc, zero, sym, ap, subst, ◌∙◌, arith}
use Rattle.std.specs.List.{Contains}
use Rattle.std.specs.List.Sorted.{IsStrictlySortedBy}
use Rattle.std.specs.Ordering.{ordering_reverse}
use Rattle.std.specs.declared.cmp.Ordering.TheVariants.{Less, Equal, Greater}
use Rattle.std.proofs.lemmas.Cmp.{nat_list_cmp_total}
use Rattle.std.proofs.lemmas.List.{get_or_default}
use Rattle.std.proofs.lemmas.Map.Keys.{Less-from_sorted}
use Rattle.std.proofs.lemmas.Map.Lookups.{exact_bytes}
use Rattle.cs_order.specs.Laws.{OneSpot}
use Rattle.cs_order.specs.Order.{Keys, by_bytes, key_at}

-- each key before the place is below the key
abbrev pub AreBelow : Keys → List ℕ → ℕ → Type 0
AreBelow keys key low = (j : ℕ) → j < low → by_bytes (key_at keys j) key ≡ Less

-- each key from the place on is above the key
abbrev pub AreAbove : Keys → List ℕ → ℕ → Type 0
AreAbove keys key high = (j : ℕ) → high ≤ j → j < length keys → by_bytes key (key_at keys j) ≡ Less

-- a key is not below itself
not_itself : (key : List ℕ) → by_bytes key key ≡ Less → ⊥
not_itself key less = let turned = nat_list_cmp_total.antisymm key key in cc

split : (j n : ℕ) (P : Type 0) → (j < n → P) → (n ≤ j → P) → P
split j zero P f g = g (omega arith)
split zero (suc n) P f g = f (omega arith)
split (suc j) (suc n) P f g = split j n P (λ l. f (omega (arith, l))) (λ l. g (omega (arith, l)))

-- nothing is found between them
pub not_found : (keys : Keys) (key : List ℕ) (place : ℕ) → AreBelow keys key place → AreAbove keys key place → Contains keys key → ⊥
not_found keys key place below above (k, within, is) =
    let here : key_at keys k ≡ key = get_or_default keys k [] key within ∙ is in
    split k place ⊥ (λ less. not_itself key (subst (λ (at : List ℕ). by_bytes at key ≡ Less) here (below k less))) (λ past. not_itself key (subst (λ (at : List ℕ). by_bytes key at ≡ Less) here (above k past within)))

-- what stands before a key that is below is below
pub below_more : (keys : Keys) (key at : List ℕ) (place : ℕ) → IsStrictlySortedBy by_bytes keys → place < length keys → at ≡ key_at keys place → by_bytes at key ≡ Less → AreBelow keys key (place + 1)
below_more keys key at place ordered within is less j before =
    let last : by_bytes (key_at keys place) key ≡ Less = subst (λ (k : List ℕ). by_bytes k key ≡ Less) is less in
    split j place (by_bytes (key_at keys j) key ≡ Less) (λ front. nat_list_cmp_total.trans (key_at keys j) (key_at keys place) key (Less-from_sorted by_bytes keys j place [] ordered front within) last) (λ past.
    let same : place ≡ j = omega (arith, before, past) in
    subst (λ (n : ℕ). by_bytes (key_at keys n) key ≡ Less) same last)

-- what stands behind a key that is above is above
pub above_more : (keys : Keys) (key at : List ℕ) (place : ℕ) → IsStrictlySortedBy by_bytes keys → at ≡ key_at keys place → by_bytes at key ≡ Greater → AreAbove keys key place
above_more keys key at place ordered is greater j past within =
    let turned : by_bytes key at ≡ Less = nat_list_cmp_total.antisymm key at ∙ ap ordering_reverse greater in
    let first : by_bytes key (key_at keys place) ≡ Less = subst (λ (k : List ℕ). by_bytes key k ≡ Less) is turned in
    split place j (by_bytes key (key_at keys j) ≡ Less) (λ front. nat_list_cmp_total.trans key (key_at keys place) (key_at keys j) first (Less-from_sorted by_bytes keys place j [] ordered front within)) (λ met.
    let same : place ≡ j = omega (arith, met, past) in
    subst (λ (n : ℕ). by_bytes key (key_at keys n) ≡ Less) same first)

-- a key that is equal is the key
pub found : (keys : Keys) (key at : List ℕ) (place : ℕ) → at ≡ key_at keys place → by_bytes at key ≡ Equal → key_at keys place ≡ key
found keys key at place is equal = sym is ∙ exact_bytes at key equal

-- nothing stands past the end
pub none_past : (keys : Keys) (key : List ℕ) (end : ℕ) → end ≡ length keys → AreAbove keys key end
none_past keys key end is j past within = absurd (omega (arith, is, past, within))

-- two places of one key are one
apart : (keys : Keys) (key : List ℕ) (i j : ℕ) → IsStrictlySortedBy by_bytes keys → i < j → j < length keys → key_at keys i ≡ key → key_at keys j ≡ key → ⊥
apart keys key i j ordered less within first next =
    not_itself key (subst (λ (k : List ℕ). by_bytes k key ≡ Less) first (subst (λ (k : List ℕ). by_bytes (key_at keys i) k ≡ Less) next (Less-from_sorted by_bytes keys i j [] ordered less within)))

pub one_spot : OneSpot
one_spot keys key some other ordered within also is same =
    split some other (some ≡ other) (λ front. absurd (apart keys key some other ordered front also is same)) (λ past.
    split other some (some ≡ other) (λ front. absurd (apart keys key other some ordered front within same is)) (λ met.
    omega (arith, past, met)))
