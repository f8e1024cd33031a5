-- Entries at the places of an order are the entries, in order.
use Rattle.std.proofs.Common.{◌≡◌, ℕ, ◌+◌, List, [], ◌∷◌, false, length, get_or, map, sym, ap, subst, ◌∙◌, arith, refl, Option, None}
use Rattle.std.specs.List.{range_with_len}
use Rattle.std.specs.List.Sorted.{IsPermutation, IsSorted, IsSortedBy}
use Rattle.std.specs.Map.{keys_of}
use Rattle.std.specs.Ordering.{is_lt}
use Rattle.std.proofs.Math.ListN.{get_or-map}
use Rattle.std.proofs.lemmas.List.{same_lists, length-map, get_or_default}
use Rattle.std.proofs.lemmas.List.FromFn.{get_or-map-range_with_len, length-map-range_with_len}
use Rattle.std.proofs.lemmas.List.Sorted.{IsPermutation-map}
use Rattle.cs_change.specs.declared.change.Change.{Change}
use Rattle.cs_order.specs.Order.{key_at, IsOrder, by_bytes}
use Rattle.cs_normal.specs.keyed.Prepared.{Entries}
use Rattle.cs_normalising.specs.Lent.{nth_entry}
use Rattle.cs_normalising.specs.Steps.Prepared.{is_below}

pub gathered_all : (es : Entries) → map (nth_entry es) (range_with_len 0 (length es)) ≡ es
gathered_all es =
    same_lists (map (nth_entry es) (range_with_len 0 (length es))) es (length-map-range_with_len (nth_entry es) 0 (length es)) (λ k d h.
    let l = length-map-range_with_len (nth_entry es) 0 (length es) in
    get_or-map-range_with_len (nth_entry es) 0 (length es) k k d (omega arith) (omega arith) ∙ get_or_default es k ([], None) d (omega arith))

pub moved : (es : Entries) (order : List ℕ) → IsOrder (keys_of es) order → IsPermutation es (map (nth_entry es) order)
moved es order o =
    let n : length (keys_of es) ≡ length es = length-map es (λ (e : List ℕ × Option Change). e.0) in
    let p = IsPermutation-map (nth_entry es) (range_with_len 0 (length (keys_of es))) order o.each_once in
    let q = subst (λ long. IsPermutation (map (nth_entry es) (range_with_len 0 long)) (map (nth_entry es) order)) n p in
    subst (λ (fs : Entries). IsPermutation fs (map (nth_entry es) order)) (gathered_all es) q

pub keys_gathered : (es : Entries) (order : List ℕ) → keys_of (map (nth_entry es) order) ≡ map (key_at (keys_of es)) order
keys_gathered es [] = refl
keys_gathered es (place ∷ order) =
    let e : key_at (keys_of es) place ≡ (nth_entry es place).0 = get_or-map (λ (e : List ℕ × Option Change). e.0) es place ([], None) in
    ap (λ key. key ∷ keys_of (map (nth_entry es) order)) (sym e) ∙ ap (λ keys. key_at (keys_of es) place ∷ keys) (keys_gathered es order)

pub ordered : (es : Entries) (order : List ℕ) → IsSorted by_bytes (map (key_at (keys_of es)) order) → IsSortedBy is_below (map (nth_entry es) order)
ordered es order up k d low high =
    let fs = map (nth_entry es) order in
    let first = λ (e : List ℕ × Option Change). e.0 in
    let up' : IsSorted by_bytes (keys_of fs) = subst (IsSorted by_bytes) (sym (keys_gathered es order)) up in
    let n : length (keys_of fs) ≡ length fs = length-map fs first in
    let below = up' k d.0 low (omega arith) in
    let next : get_or (keys_of fs) (k + 1) d.0 ≡ (get_or fs (k + 1) d).0 = get_or-map first fs (k + 1) d in
    let this : get_or (keys_of fs) k d.0 ≡ (get_or fs k d).0 = get_or-map first fs k d in
    subst (λ key. is_lt (by_bytes (get_or fs (k + 1) d).0 key) ≡ false) this (subst (λ key. is_lt (by_bytes key (get_or (keys_of fs) k d.0)) ≡ false) next below)
