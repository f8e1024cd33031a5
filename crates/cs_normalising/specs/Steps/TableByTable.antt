-- What the code holds on the way to the normal form of a changeset, table by table.
use Rattle.std.specs.Prelude.{◌≡◌, ◌≢◌, ◌≤◌, List, [], ◌∷◌, ◌++◌, length, All, Contains}
use Rattle.std.specs.List.{flat_map, AllByRecursion}
use Rattle.cs_value.specs.declared.catalog.TableDef.{TableDef}
use Rattle.cs_change.specs.Spelling.{marks_of, change_spelling, changes_spelling, FitsChange}
use Rattle.cs_change.specs.declared.group.Group.{Group}
use Rattle.cs_normal.specs.keyed.Changes.{Changes, IsEntry}
use Rattle.cs_normal.specs.Normal.{table_changes}
use Rattle.cs_normal.specs.keyed.NormalForm.{AreKeyed, IsNormalOf}
use Rattle.cs_normalising.specs.UnfitChanges.{HasFirstUnfitChange}
use Rattle.cs_normalising.specs.NormalFormOf.{changes_of}
use Rattle.cs_normal.specs.declared.normal.TableChanges.{TableChanges}
use Rattle.cs_normalising.specs.declared.unfit.Unfit.{Unfit}
use Rattle.cs_normalising.specs.declared.unfit.Unfit.TheVariants as unfit

-- these are the table's changes over all its groups, in normal form
pub record IsTableOf (groups : List Group) (table : TableDef) (changes : Changes) : Type 0 where
  pub keyed : AreKeyed table.key_marks (changes_of table.name groups)
  pub normal : IsNormalOf table.key_marks (changes_of table.name groups) changes
  pub entries : AllByRecursion (FitsChange table.key_marks) (changes_of table.name groups) → All (IsEntry table.key_marks) changes
  pub shorter : length (flat_map (λ keyed. change_spelling keyed.1) changes) ≤ length (changes_spelling (changes_of table.name groups))

-- each table with its changes in normal form, where it has some
pub data AreTablesOf (groups : List Group) : List TableDef → List TableChanges → Type 0 where
  no_table : AreTablesOf groups [] []
  next : (table : TableDef) (changes : Changes) {tables : List TableDef} {normal : List TableChanges} → IsTableOf groups table changes → AreTablesOf groups tables normal → AreTablesOf groups (table ∷ tables) (table_changes table changes ++ normal)

-- the changes of one of the tables have this fault
abbrev pub HasTableFault : Unfit → List TableDef → List Group → Type 0
HasTableFault fault tables groups =
    (table : TableDef) × Contains tables table × HasFirstUnfitChange fault table.key_marks (changes_of table.name groups)

-- the same; want of memory says nothing
abbrev pub AnyUnfit : Unfit → List TableDef → List Group → Type 0
AnyUnfit unfit.Memory tables groups = Unit {0}
AnyUnfit fault tables groups = HasTableFault fault tables groups

-- what is wrong with a group's header
abbrev pub IsUnfitHeader : Unfit → List TableDef → Group → Type 0
IsUnfitHeader unfit.UnknownTable tables group = All (λ table. table.name ≢ group.name) tables
IsUnfitHeader unfit.Shape tables group =
    (table : TableDef) × Contains tables table × (group.name ≡ table.name) × (marks_of group.marks ≢ table.key_marks)
IsUnfitHeader _ tables group = ⊥
