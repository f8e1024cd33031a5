-- The places of names.
use Rattle.std.proofs.Common.{◌≡◌, ℕ, ◌<◌, List, [], ◌∷◌, length, get_or, map, refl, sym, ap, subst, ◌∙◌}
use Rattle.std.specs.List.{AllByRecursion, Contains}
use Rattle.std.proofs.lemmas.List.{get_or-map, length-map}
use Rattle.std.proofs.lemmas.List.Elements.{All-contains_itself, recursion_from_All}
use Rattle.cs_order.specs.Facts.{first_place, no_places}
use Rattle.cs_order.specs.Groups.{places_of, IsGrouping}
use Rattle.cs_order.specs.Order.{Keys, key_at}
use Rattle.cs_normal.specs.Placed.{name_first, AreGrouped}
use Rattle.cs_normal.specs.NormalFacts.{has_place}

-- ---- each name has a place

name_is : (names : Keys) (name : List ℕ) (ps : List ℕ) → places_of names name ≡ ps → Contains names name → name_first names ps ≡ name
name_is names name [] is in' = absurd (has_place names name in' is)
name_is names name (p ∷ ps) is in' = sym (first_place names name p ps is).0

each_first : (names some : Keys) → AllByRecursion (Contains names) some → map (name_first names) (map (places_of names) some) ≡ some
each_first names [] all = refl
each_first names (name ∷ some) all =
    let here = name_is names name (places_of names name) refl all.0 in
    let rest = each_first names some all.1 in
    cc

all_in : (names some : Keys) → ((name : List ℕ) → Contains some name → Contains names name) → AllByRecursion (Contains names) some
all_in names some f =
    recursion_from_All (Contains names) some (λ k d within. f (get_or some k d) (All-contains_itself some k d within))

pub grouped : (names once : Keys) (groups : List (List ℕ)) → IsGrouping names groups → once ≡ map (name_first names) groups → AreGrouped names once groups
grouped names once groups g is =
    let same : once ≡ g.distinct = is ∙ ap (λ (gs : List (List ℕ)). map (name_first names) gs) g.each ∙ each_first names g.distinct (all_in names g.distinct (λ (name : List ℕ). (g.complete name).1)) in
    subst (λ (d : Keys). AreGrouped names d groups) (sym same) (record { rising = g.rising; complete = g.complete; each = g.each })

-- ---- found

pub found_places : (names once : Keys) (groups : List (List ℕ)) (name : List ℕ) (at : ℕ) (found : List ℕ) → AreGrouped names once groups → at < length once → key_at once at ≡ name → found ≡ get_or groups at [] → found ≡ places_of names name
found_places names once groups name at found g within is here =
    here ∙ ap (λ (gs : List (List ℕ)). get_or gs at []) g.each ∙ get_or-map (places_of names) once at [] [] within ∙ ap (places_of names) is

pub as_many : (names once : Keys) (groups : List (List ℕ)) → AreGrouped names once groups → length groups ≡ length once
as_many names once groups g = ap (λ (gs : List (List ℕ)). length gs) g.each ∙ length-map once (places_of names)

pub not_there : (names once : Keys) (groups : List (List ℕ)) (name : List ℕ) → AreGrouped names once groups → (Contains once name → ⊥) → [] ≡ places_of names name
not_there names once groups name g missing =
    sym (no_places names name (places_of names name) (λ in'. missing ((g.complete name).0 in')) refl)
