-- Each group is of one of the tables of all headers, where each name has one shape.
use Rattle.std.proofs.Common.{◌≡◌, Bool, true, List, [], ◌∷◌, ◌++◌, map, sym, ap, ◌∙◌, arith, inl, inr}
use Rattle.std.specs.List.{AllByRecursion, Contains, filter}
use Rattle.std.proofs.lemmas.Bool.{not-false}
use Rattle.std.proofs.lemmas.List.Elements.{All-from_recursion, recursion_from_All, All-contains_itself}
use Rattle.std.proofs.lemmas.Slice.Eq.{bytes_eq-Decides}
use Rattle.cs_value.specs.Facts.{by_test}
use Rattle.cs_value.specs.declared.catalog.TableDef.{TableDef}
use Rattle.cs_change.specs.declared.group.Group.{Group}
use Rattle.cs_normal.specs.Headers.{header, headers, has_other_name, tables_of_headers, HasTwoShapes}
use Rattle.cs_normal.specs.NormalFacts.{here, behind, first_or_behind, same_or_not}
use Rattle.cs_normalising.specs.Laws.{HeadersHaveTables}
use Rattle.cs_normalising.specs.NormalFormOf.{HasTable, HaveTables}

in_filter : (p : TableDef → Bool) (xs : List TableDef) (x : TableDef) → p x ≡ true → Contains xs x → Contains (filter p xs) x
in_filter p [] x e (k, within, is) = absurd (omega (arith, within))
in_filter p (y ∷ ys) x e h =
    elim (first_or_behind y ys x h) [
      | inl is ↦ (let f : p y ≡ true = ap p is ∙ e in simp f (rw (← is) (here y (filter p ys))))
      | inr rest ↦
          (let more = in_filter p ys x e rest in
          by_test (p y) _ (λ f. simp f (behind y (filter p ys) x more)) (λ f. simp f more))
    ]

-- a table of the header's name, which is one of the headers
abbrev IsNamedIn : List TableDef → TableDef → TableDef → Type 0
IsNamedIn all one table = Contains (tables_of_headers all) table × Contains all table × (table.name ≡ one.name)

first_of_name : (all : List TableDef) (one : TableDef) → Contains all one → (table : TableDef) × IsNamedIn all one table
unfolding tables_of_headers
first_of_name [] one (k, within, is) = absurd (omega (arith, within))
first_of_name (first ∷ others) one h =
    let tables = filter (has_other_name first) (tables_of_headers others) in
    elim (first_or_behind first others one h) [
      | inl is ↦ (first, (here first tables, here first others, ap (λ (t : TableDef). t.name) is))
      | inr rest ↦
          (let found = first_of_name others one rest in
          by_test (has_other_name first found.0) _
          (λ e. (found.0, (behind first tables found.0 (in_filter (has_other_name first) (tables_of_headers others) found.0 e found.1.0), behind first others found.0 found.1.1, found.1.2)))
          (λ e.
          let same : first.name ≡ found.0.name = (bytes_eq-Decides first.name found.0.name).0 (not-false _ e) in
          (first, (here first tables, here first others, same ∙ found.1.2))))
    ]

has_table : (all : List TableDef) (group : Group) → (HasTwoShapes all → ⊥) → Contains all (header group) → HasTable (tables_of_headers all) group
has_table all group one_shape in' =
    let found = first_of_name all (header group) in' in
    let table = found.0 in
    elim (same_or_not (header group).key_marks table.key_marks) [
      | inl same ↦ (table, found.1.0, (sym found.1.2, same))
      | inr differ ↦ absurd (one_shape (header group, table, in', found.1.1, (sym found.1.2, differ)))
    ]

-- what stands in a front, and in what is behind it
all_front : {X : Type 0} (P : X → Type 0) (xs ys : List X) → AllByRecursion P (xs ++ ys) → AllByRecursion P xs × AllByRecursion P ys
all_front P [] ys h = (tt, h)
all_front P (x ∷ xs) ys h = let rest = all_front P xs ys h.1 in ((h.0, rest.0), rest.1)

groups_have : (all : List TableDef) (groups : List Group) → (HasTwoShapes all → ⊥) → AllByRecursion (Contains all) (map header groups) → AllByRecursion (HasTable (tables_of_headers all)) groups
groups_have all [] one_shape in' = tt
groups_have all (group ∷ groups) one_shape in' =
    (has_table all group one_shape in'.0, groups_have all groups one_shape in'.1)

each_has : (all : List TableDef) (changesets : List (List Group)) → (HasTwoShapes all → ⊥) → AllByRecursion (Contains all) (headers changesets) → AllByRecursion (HaveTables (tables_of_headers all)) changesets
each_has all [] one_shape in' = tt
each_has all (groups ∷ others) one_shape in' =
    let parts = all_front (Contains all) (map header groups) (headers others) in' in
    (All-from_recursion (HasTable (tables_of_headers all)) groups (groups_have all groups one_shape parts.0), each_has all others one_shape parts.1)

pub headers_have_tables : HeadersHaveTables
headers_have_tables changesets one_shape =
    let all = headers changesets in
    each_has all changesets one_shape (recursion_from_All (Contains all) all (All-contains_itself all))
