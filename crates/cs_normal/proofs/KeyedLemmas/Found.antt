-- The change at the place of its key.
use Rattle.std.proofs.Common.{◌≡◌, ℕ, ◌<◌, List, [], ◌∷◌, length, get_or, slice_get, Some, None, zero, suc, refl, sym, ap, ◌∙◌, arith}
use Rattle.std.specs.Cmp.{Equal-is, eq_by_cmp_equiv}
use Rattle.std.specs.List.{Contains}
use Rattle.std.specs.Map.{keys_of, values_of}
use Rattle.std.specs.Option.{option_map}
use Rattle.std.proofs.lemmas.Cmp.{nat_list_cmp_total}
use Rattle.std.proofs.lemmas.List.{get_or-map}
use Rattle.std.proofs.lemmas.Map.Entries.{lookup_from_place}
use Rattle.std.proofs.lemmas.Map.Keys.{IsDistinct-from_sorted}
use Rattle.std.proofs.lemmas.Map.Lookups.{exact_bytes}
use Rattle.std.proofs.lemmas.Option.{slice_get-map, slice_get_within, get_or_from_slice_get}
use Rattle.cs_value.specs.Facts.{by_test}
use Rattle.cs_order.specs.Order.{by_bytes, key_at, same_bytes}
use Rattle.cs_order.specs.Facts.{same_is}
use Rattle.cs_change.specs.declared.change.Change.{Change}
use Rattle.cs_normal.specs.keyed.Changes.{Changes, change_at, IsOrdered}

entry_there : (entries : Changes) (place : ℕ) → place < length entries → (e : List ℕ × Change) × (slice_get entries place ≡ Some e)
entry_there [] place within = absurd (omega (arith, within))
entry_there (e ∷ entries) zero within = (e, refl)
entry_there (e ∷ entries) (suc place) within = entry_there entries place (omega (arith, within))

key_there : (entries : Changes) (place : ℕ) (e : List ℕ × Change) → slice_get entries place ≡ Some e → get_or (keys_of entries) place [] ≡ e.0
key_there entries place e got =
    get_or-map (λ (x : List ℕ × Change). x.0) entries place e [] (slice_get_within entries place e got)
    ∙ ap (λ (x : List ℕ × Change). x.0) (get_or_from_slice_get entries place e e got)

as_many : (entries : Changes) → length (keys_of entries) ≡ length entries
as_many [] = refl
as_many (e ∷ entries) = ap (λ (n : ℕ). suc n) (as_many entries)

-- the change there is the one of its key
pub found : (entries : Changes) (key : List ℕ) (place : ℕ) → IsOrdered entries → place < length (keys_of entries) → key_at (keys_of entries) place ≡ key → slice_get (values_of entries) place ≡ change_at key entries
found entries key place ordered within is =
    let there = entry_there entries place (omega (arith, within, as_many entries)) in
    let e : List ℕ × Change = there.0 in
    let got : slice_get entries place ≡ Some (e.0, e.1) = there.1 in
    let same : e.0 ≡ key = sym (key_there entries place e there.1) ∙ is in
    let looked : change_at e.0 entries ≡ Some e.1 = lookup_from_place (eq_by_cmp_equiv nat_list_cmp_total) entries place e.0 e.1 (IsDistinct-from_sorted by_bytes (keys_of entries) ordered) got in
    let value : slice_get (values_of entries) place ≡ Some e.1 = slice_get-map (λ (x : List ℕ × Change). x.1) entries place ∙ ap (option_map (λ (x : List ℕ × Change). x.1)) there.1 in
    value ∙ sym looked ∙ ap (λ (k : List ℕ). change_at k entries) same

behind : (key first : List ℕ) (keys : List (List ℕ)) → Contains keys key → Contains (first ∷ keys) key
behind key first keys (k, within, is) = (suc k, omega (arith, within), is)

-- no change has a key that isn't there
pub not_found : (entries : Changes) (key : List ℕ) → (Contains (keys_of entries) key → ⊥) → change_at key entries ≡ None
not_found [] key never = refl
not_found (e ∷ entries) key never =
    by_test (same_bytes key e.0) _ (λ t. absurd (never (zero, omega arith, sym (same_is key e.0 t)))) (λ t.
    simp t (not_found entries key (λ there. never (behind key e.0 (keys_of entries) there))))
