-- What stands at the places of names.
use Rattle.std.proofs.Common.{◌≡◌, ℕ, ◌<◌, List, [], ◌∷◌, length, map, Option, Some, None, refl, sym, ◌∙◌, arith}
use Rattle.std.specs.Borrow.{Bor}
use Rattle.std.specs.Option.{option_copied, MatchOption}
use Rattle.std.specs.Prelude.{◌≢◌}
use Rattle.std.specs.List.{All, HoldsAt, flat_map}
use Rattle.std.proofs.lemmas.List.{get_or-map, length-map}
use Rattle.cs_value.specs.declared.catalog.TableDef.{TableDef}
use Rattle.cs_change.specs.declared.group.Group.{Group}
use Rattle.cs_order.specs.Facts.{first_place}
use Rattle.cs_order.specs.Groups.{places_of}
use Rattle.cs_order.specs.Order.{Keys}
use Rattle.cs_normal.specs.AtPlaces.{at_places}
use Rattle.cs_normal.specs.Placed.{table_name}
use Rattle.cs_normal.specs.NormalFacts.{has_place}
use Rattle.cs_normalising.specs.NormalFormOf.{changes_of}
use Rattle.cs_normalising.specs.Steps.Named.{changes_at, names_of, nowhere}

-- ---- found

-- a table's changes are those of the groups at the places of its name
pub changes_at_places : (name : List ℕ) (groups : List Group) → flat_map (changes_at groups) (places_of (names_of groups) name) ≡ changes_of name groups
changes_at_places name groups = at_places (λ (g : Group). g.name) (λ (g : Group). g.changes) nowhere refl name groups

-- names that may be lent
pub as_lent : (names : Keys) (lent : Option (Bor Keys)) → MatchOption (option_copied lent) (Unit {0}) (λ n. n ≡ names) → MatchOption lent (Unit {0}) (λ n. n.now ≡ names)
as_lent names None h = h
as_lent names (Some n) h = h

-- ---- the table of a name

-- the first place of a name is that of a table with the name
pub first_named : (tables : List TableDef) (name : List ℕ) (place : ℕ) (others : List ℕ) → places_of (map table_name tables) name ≡ place ∷ others → (place < length tables) × HoldsAt (λ table. table.name ≡ name) tables place
first_named tables name place others is =
    let first = first_place (map table_name tables) name place others is in
    let within : place < length tables = omega (arith, first.1, length-map tables table_name) in
    (within, λ d. sym (get_or-map table_name tables place d [] within) ∙ sym first.0)

-- where a name has no place, no table has it
pub none_named : (tables : List TableDef) (name : List ℕ) → places_of (map table_name tables) name ≡ [] → All (λ table. table.name ≢ name) tables
none_named tables name none k d within same =
    has_place (map table_name tables) name (k, omega (arith, within, length-map tables table_name), get_or-map table_name tables k d name within ∙ same) none

-- both, of what may be found
pub found_in : (tables : List TableDef) (name : List ℕ) (ps : List ℕ) → ps ≡ places_of (map table_name tables) name → (found : Option ℕ) → MatchOption found (ps ≡ []) (λ place. (others : List ℕ) × (ps ≡ place ∷ others)) → MatchOption found (All (λ table. table.name ≢ name) tables) (λ place. (place < length tables) × HoldsAt (λ table. table.name ≡ name) tables place)
found_in tables name ps is None none = none_named tables name (sym is ∙ none)
found_in tables name ps is (Some place) (others, at) = first_named tables name place others (sym is ∙ at)
