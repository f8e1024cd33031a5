-- What the headers of a changeset say of the changes of each table.
use Rattle.std.proofs.Common.{◌≡◌, Bool, List, [], ◌∷◌, ◌++◌, sym, subst, ap, ◌∙◌}
use Rattle.std.specs.List.{AllByRecursion, Contains}
use Rattle.std.specs.Str.{bytes_eq}
use Rattle.std.proofs.lemmas.List.Elements.{recursion_from_All, All-contains_itself}
use Rattle.std.proofs.lemmas.Slice.Eq.{bytes_eq-Decides}
use Rattle.cs_value.specs.Facts.{by_test}
use Rattle.cs_value.specs.Catalog.{AreTables}
use Rattle.cs_value.specs.declared.catalog.TableDef.{TableDef}
use Rattle.cs_change.specs.Spelling.{FitsChange, FitsChangeset, marks_of}
use Rattle.cs_change.specs.declared.group.Group.{Group}
use Rattle.cs_normalising.specs.NormalFormOf.{changes_of, HasTable, HaveTables}
use Rattle.cs_normal.specs.NormalFacts.{one_table}
use Rattle.cs_normalising.proofs.PerTable.{AreAsRead}
use Rattle.cs_normalising.proofs.Shorter.{HaveShape}

-- a group of a table's name has the table's columns
pub shape_of : (tables : List TableDef) (table : TableDef) (group : Group) → AreTables tables → Contains tables table → HasTable tables group → group.name ≡ table.name → marks_of group.marks ≡ table.key_marks
shape_of tables table group are in' (other, other_in, (same, marks)) named =
    marks ∙ ap (λ (t : TableDef). t.key_marks) (one_table tables other table are other_in in' (sym same ∙ named))

have_shape : (tables : List TableDef) (table : TableDef) (groups : List Group) → AreTables tables → Contains tables table → AllByRecursion (HasTable tables) groups → HaveShape groups table
have_shape tables table [] are in' have = tt
have_shape tables table (group ∷ groups) are in' have =
    (shape_of tables table group are in' have.0, have_shape tables table groups are in' have.1)

all_append : {X : Type 0} (P : X → Type 0) (xs ys : List X) → AllByRecursion P xs → AllByRecursion P ys → AllByRecursion P (xs ++ ys)
all_append P [] ys p q = q
all_append P (x ∷ xs) ys p q = (p.0, all_append P xs ys p.1 q)

as_read : (table : TableDef) (groups : List Group) → HaveShape groups table → FitsChangeset groups → AreAsRead groups table
as_read table [] shape fits = tt
as_read table (group ∷ groups) shape fits =
    let rest = as_read table groups shape.1 fits.1 in
    by_test (bytes_eq group.name table.name) _ (λ e.
    let marks = shape.0 ((bytes_eq-Decides group.name table.name).0 e) in
    let here : AllByRecursion (FitsChange table.key_marks) group.changes = subst (λ (ms : List Bool). AllByRecursion (FitsChange ms) group.changes) marks fits.0.1 in
    simp e (all_append (FitsChange table.key_marks) group.changes (changes_of table.name groups) here rest)) (λ e. simp e rest)

each_shape : (tables some : List TableDef) (groups : List Group) → AreTables tables → AllByRecursion (Contains tables) some → HaveTables tables groups → AllByRecursion (HaveShape groups) some
each_shape tables [] groups are in' have = tt
each_shape tables (table ∷ some) groups are in' have =
    (have_shape tables table groups are in'.0 (recursion_from_All (HasTable tables) groups have), each_shape tables some groups are in'.1 have)

each_read : (some : List TableDef) (groups : List Group) → AllByRecursion (HaveShape groups) some → FitsChangeset groups → AllByRecursion (AreAsRead groups) some
each_read [] groups shape fits = tt
each_read (table ∷ some) groups shape fits = (as_read table groups shape.0 fits, each_read some groups shape.1 fits)

pub all_shape : (tables : List TableDef) (groups : List Group) → AreTables tables → HaveTables tables groups → AllByRecursion (HaveShape groups) tables
all_shape tables groups are have =
    each_shape tables tables groups are (recursion_from_All (Contains tables) tables (All-contains_itself tables)) have

pub all_read : (tables : List TableDef) (groups : List Group) → AreTables tables → HaveTables tables groups → FitsChangeset groups → AllByRecursion (AreAsRead groups) tables
all_read tables groups are have fits = each_read tables groups (all_shape tables groups are have) fits
