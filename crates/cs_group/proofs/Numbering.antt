-- A table's changes by the places of its groups.
use Rattle.std.proofs.Common.{◌≡◌, ℕ, zero, suc, ◌+◌, ◌<◌, ◌≤◌, cond, List, [], ◌∷◌, ◌++◌, length, map, get_or, Option, Some, None, refl, sym, ap, ◌∙◌, arith}
use Rattle.std.specs.Borrow.{Bor}
use Rattle.std.specs.Prelude.{slice_get}
use Rattle.std.specs.List.{flat_map}
use Rattle.std.specs.Str.{bytes_eq}
use Rattle.std.proofs.lemmas.Grind.{flat_map-append}
use Rattle.std.proofs.lemmas.List.{map-append}
use Rattle.std.proofs.lemmas.List.Folds.{flat_map-map}
use Rattle.cs_value.specs.Facts.{by_test}
use Rattle.cs_change.specs.declared.change.Change.{Change}
use Rattle.cs_change.specs.declared.group.Group.{Group}
use Rattle.cs_order.specs.Groups.{places_of}
use Rattle.cs_order.specs.Order.{Keys}
use Rattle.cs_normal.specs.AtPlaces.{at_places}
use Rattle.cs_normalising.specs.NormalFormOf.{changes_of}
use Rattle.cs_group.specs.Steps.Joining.{in_a_row}
use Rattle.cs_group.specs.Steps.Numbering.{changes_in_group, groups_at, listed_group, name_of, named, numbered_behind, numbered_from, numbered_names, numbers_in_group, NumberedGroup}
use Rattle.cs_group.specs.Steps.Reading.{numbers_from, read_each}

-- what a group gives, if it has the name
abbrev if_named : {Y : Type 0} → List ℕ → (NumberedGroup → List Y) → NumberedGroup → List Y
if_named name h numbered = cond (bytes_eq (name_of numbered) name) (h numbered) []

all_changes : (name : List ℕ) (number : ℕ) (changesets : List (List Group)) → flat_map (if_named name changes_in_group) (numbered_from number changesets) ≡ in_a_row (read_each name changesets)
all_changes name number [] = refl
all_changes name number (groups ∷ rest) =
    let numbered : Group → NumberedGroup = λ group. (number, group) in
    flat_map-append (if_named name changes_in_group) (map numbered groups) (numbered_from (number + 1) rest)
    ∙ ap (λ (cs : List Change). cs ++ flat_map (if_named name changes_in_group) (numbered_from (number + 1) rest)) (flat_map-map (if_named name changes_in_group) numbered groups)
    ∙ ap (λ (cs : List Change). changes_of name groups ++ cs) (all_changes name (number + 1) rest)

numbers_of_one : (name : List ℕ) (number : ℕ) (groups : List Group) → flat_map (λ group. if_named name numbers_in_group (number, group)) groups ≡ map (λ _. number) (changes_of name groups)
numbers_of_one name number [] = refl
numbers_of_one name number (group ∷ groups) =
    let rest = numbers_of_one name number groups in
    by_test (bytes_eq group.name name) _ (λ e.
    simp e (ap (λ (ns : List ℕ). map (λ _. number) group.changes ++ ns) rest
    ∙ sym (map-append (λ _. number) group.changes (changes_of name groups)))) (λ e. simp e rest)

all_numbers : (name : List ℕ) (number : ℕ) (changesets : List (List Group)) → flat_map (if_named name numbers_in_group) (numbered_from number changesets) ≡ numbers_from number (read_each name changesets)
all_numbers name number [] = refl
all_numbers name number (groups ∷ rest) =
    let numbered : Group → NumberedGroup = λ group. (number, group) in
    flat_map-append (if_named name numbers_in_group) (map numbered groups) (numbered_from (number + 1) rest)
    ∙ ap (λ (ns : List ℕ). ns ++ flat_map (if_named name numbers_in_group) (numbered_from (number + 1) rest)) (flat_map-map (if_named name numbers_in_group) numbered groups ∙ numbers_of_one name number groups)
    ∙ ap (λ (ns : List ℕ). map (λ _. number) (changes_of name groups) ++ ns) (all_numbers name (number + 1) rest)

-- ---- the groups of one table

module _ (name : List ℕ) where
  taken : {Y : Type 0} (h : NumberedGroup → List Y) (groups : List NumberedGroup) → flat_map h (named name groups) ≡ flat_map (if_named name h) groups
  taken h [] = refl
  taken {Y} h (g ∷ groups) =
      let rest = taken h groups in
      by_test (bytes_eq (name_of g) name) _
      (λ e. simp e (ap (λ (ys : List Y). h g ++ ys) rest))
      (λ e. simp e rest)

  -- their changes are those of the table in each changeset
  pub changes_of_named : (changesets : List (List Group)) → flat_map changes_in_group (named name (numbered_from 1 changesets)) ≡ in_a_row (read_each name changesets)
  changes_of_named changesets =
      taken changes_in_group (numbered_from 1 changesets) ∙ all_changes name 1 changesets

  -- and so are the numbers
  pub numbers_of_named : (changesets : List (List Group)) → flat_map numbers_in_group (named name (numbered_from 1 changesets)) ≡ numbers_from 1 (read_each name changesets)
  numbers_of_named changesets =
      taken numbers_in_group (numbered_from 1 changesets) ∙ all_numbers name 1 changesets

-- ---- by the places of their names

abbrev name_if_any : Option NumberedGroup → List ℕ
name_if_any None = []
name_if_any (Some group) = name_of group

abbrev each_some : List NumberedGroup → List (Option NumberedGroup)
each_some groups = map (λ group. Some group) groups

names_same : (groups : List NumberedGroup) → map name_if_any (each_some groups) ≡ numbered_names groups
names_same [] = refl
names_same (g ∷ groups) = ap (λ (ns : Keys). name_of g ∷ ns) (names_same groups)

there_same : (groups : List NumberedGroup) (place : ℕ) → get_or (each_some groups) place None ≡ slice_get groups place
there_same [] place = refl
there_same (g ∷ groups) zero = refl
there_same (g ∷ groups) (suc place) = there_same groups place

named_same : (name : List ℕ) (groups : List NumberedGroup) → flat_map (λ o. cond (bytes_eq (name_if_any o) name) (listed_group o) []) (each_some groups) ≡ named name groups
named_same name [] = refl
named_same name (g ∷ groups) =
    ap (λ (gs : List NumberedGroup). cond (bytes_eq (name_of g) name) (g ∷ []) [] ++ gs) (named_same name groups)

walked_same : (f h : ℕ → List NumberedGroup) → ((place : ℕ) → f place ≡ h place) → (places : List ℕ) → flat_map f places ≡ flat_map h places
walked_same f h same [] = refl
walked_same f h same (p ∷ places) =
    ap (λ (gs : List NumberedGroup). gs ++ flat_map f places) (same p) ∙ ap (λ (gs : List NumberedGroup). h p ++ gs) (walked_same f h same places)

pub named_at : (name : List ℕ) (groups : List NumberedGroup) → groups_at groups (places_of (numbered_names groups) name) ≡ named name groups
named_at name groups =
    let placed = at_places name_if_any listed_group None refl name (each_some groups) in
    walked_same (λ place. listed_group (slice_get groups place)) (λ place. listed_group (get_or (each_some groups) place None)) (λ place. ap listed_group (sym (there_same groups place))) (places_of (numbered_names groups) name)
    ∙ ap (λ (ns : Keys). flat_map (λ place. listed_group (get_or (each_some groups) place None)) (places_of ns name)) (sym (names_same groups))
    ∙ placed
    ∙ named_same name groups

-- ---- a group at a place

pub group_there : (groups : List (ℕ × Bor Group)) (place : ℕ) (x : ℕ × Bor Group) → place < length groups → x ≡ get_or groups place x → slice_get (numbered_behind groups) place ≡ Some (x.0, x.1.now)
group_there [] place x less is = absurd (omega (arith, less))
group_there (g ∷ groups) zero x less is = ap (λ (y : ℕ × Bor Group). Some (y.0, y.1.now)) (sym is)
group_there (g ∷ groups) (suc place) x less is = group_there groups place x (omega (arith, less)) is

pub no_group_there : (groups : List (ℕ × Bor Group)) (place : ℕ) → length groups ≤ place → slice_get (numbered_behind groups) place ≡ None
no_group_there [] place past = refl
no_group_there (g ∷ groups) zero past = absurd (omega (arith, past))
no_group_there (g ∷ groups) (suc place) past = no_group_there groups place (omega (arith, past))
