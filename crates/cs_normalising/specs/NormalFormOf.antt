-- The normal form of a changeset as read, and why there is none.
use Rattle.std.specs.Prelude.{◌≡◌, ◌≢◌, ℕ, List, [], ◌∷◌, ◌++◌, All, Contains, if◌then◌else◌}
use Rattle.std.specs.List.{flat_map}
use Rattle.std.specs.Str.{bytes_eq}
use Rattle.cs_value.specs.declared.catalog.TableDef.{TableDef}
use Rattle.cs_change.specs.Spelling.{marks_of}
use Rattle.cs_change.specs.declared.change.Change.{Change}
use Rattle.cs_change.specs.declared.group.Group.{Group}
use Rattle.cs_normal.specs.Normal.{FitsCatalog, IsNormalChangeset, changes_in}
use Rattle.cs_normal.specs.keyed.NormalForm.{AreKeyed, IsNormalOf}
use Rattle.cs_normalising.specs.UnfitChanges.{HasFirstUnfitChange}
use Rattle.cs_normal.specs.declared.normal.TableChanges.{TableChanges}
use Rattle.cs_normalising.specs.declared.unfit.Unfit.{Unfit}
use Rattle.cs_normalising.specs.declared.unfit.Unfit.TheVariants as unfit

-- the changes of a table, over all its groups
abbrev pub changes_of : List ℕ → List Group → List Change
changes_of name groups = flat_map (λ group. if bytes_eq group.name name then group.changes else []) groups

-- the group has the table's name and key columns
abbrev pub IsGroupOf : TableDef → Group → Type 0
IsGroupOf table group = (group.name ≡ table.name) × (marks_of group.marks ≡ table.key_marks)

-- the group is of one of the tables
abbrev pub HasTable : List TableDef → Group → Type 0
HasTable tables group = (table : TableDef) × Contains tables table × IsGroupOf table group

-- each group is of one of the tables
abbrev pub HaveTables : List TableDef → List Group → Type 0
HaveTables tables groups = All (HasTable tables) groups

-- each change of a table has a key of its own without NULL
abbrev pub HaveKeys : List TableDef → List Group → Type 0
HaveKeys tables groups = All (λ table. AreKeyed table.key_marks (changes_of table.name groups)) tables

-- the changeset fits the catalog
abbrev pub AreFit : List TableDef → List Group → Type 0
AreFit tables groups = HaveTables tables groups × HaveKeys tables groups

-- the normal form of a changeset that fits the catalog. It is a normal changeset of the catalog's tables, in which each
-- table's changes are the normal form of those that were read
pub record IsNormalFormOf (tables : List TableDef) (groups : List Group) (form : List TableChanges) : Type 0 where
  pub fit : AreFit tables groups
  pub normal : IsNormalChangeset form
  pub of_catalog : FitsCatalog tables form
  pub each : All (λ table. IsNormalOf table.key_marks (changes_of table.name groups) (changes_in table.name form)) tables

-- what is wrong with a group behind those: its table first, then its changes in order
abbrev pub IsUnfitGroup : Unfit → List TableDef → List Group → Group → Type 0
IsUnfitGroup unfit.UnknownTable tables before group = All (λ table. table.name ≢ group.name) tables
IsUnfitGroup unfit.Shape tables before group =
    (table : TableDef) × Contains tables table × (group.name ≡ table.name) × (marks_of group.marks ≢ table.key_marks)
IsUnfitGroup unfit.NullKey tables before group =
    (table : TableDef) × Contains tables table × IsGroupOf table group
    × HasFirstUnfitChange unfit.NullKey table.key_marks (changes_of table.name before ++ group.changes)
IsUnfitGroup unfit.KeyTwice tables before group =
    (table : TableDef) × Contains tables table × IsGroupOf table group
    × HasFirstUnfitChange unfit.KeyTwice table.key_marks (changes_of table.name before ++ group.changes)
IsUnfitGroup unfit.Memory tables before group = ⊥

-- the first group that has a fault
abbrev pub HasFirstUnfitGroup : Unfit → List TableDef → List Group → Type 0
HasFirstUnfitGroup fault tables groups =
    (before : List Group) × (group : Group) × (others : List Group)
    × (groups ≡ before ++ group ∷ others) × AreFit tables before × IsUnfitGroup fault tables before group

-- why the changeset has no normal form; want of memory says nothing of it
abbrev pub IsUnfit : Unfit → List TableDef → List Group → Type 0
IsUnfit unfit.Memory tables groups = Unit {0}
IsUnfit unfit.UnknownTable tables groups = HasFirstUnfitGroup unfit.UnknownTable tables groups
IsUnfit unfit.Shape tables groups = HasFirstUnfitGroup unfit.Shape tables groups
IsUnfit unfit.NullKey tables groups = HasFirstUnfitGroup unfit.NullKey tables groups
IsUnfit unfit.KeyTwice tables groups = HasFirstUnfitGroup unfit.KeyTwice tables groups
