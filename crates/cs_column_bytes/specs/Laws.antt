-- The laws of changesets with SQLite's column bytes.
use Rattle.std.specs.Prelude.{◌≡◌, ◌⊎◌, List, All, length}
use Rattle.std.specs.List.{AllByRecursion, AllZip, flat_map}
use Rattle.cs_change.specs.Spelling.{changeset_spelling, marks_of, FitsChangeset, FitsHeader}
use Rattle.cs_change.specs.declared.group.Group.{Group}
use Rattle.cs_normal.specs.Headers.{headers, tables_of_headers, HaveCatalog}
use Rattle.cs_normal.specs.Normal.{FitsCatalog, IsNormalChangeset, groups_of}
use Rattle.cs_normal.specs.declared.normal.TableChanges.{TableChanges}
use Rattle.cs_column_bytes.specs.KeyPlaces.{Head, for_sqlite, heads_of, HaveOneOrder, HasTwoOrders}

-- no headers have one order and two
abbrev pub OneOrderOrTwo : Type 0
OneOrderOrTwo = (heads : List Head) → HaveOneOrder heads → HasTwoOrders heads → ⊥

-- there is one: headers have one order, or two
abbrev pub SomeOrder : Type 0
SomeOrder = (heads : List Head) → HaveOneOrder heads ⊎ HasTwoOrders heads

-- a header that can be read, and has the table's key columns where it is of its name
abbrev pub IsHeadOf : Head → TableChanges → Type 0
IsHeadOf head table = head.0 ≡ table.name → (marks_of head.1 ≡ table.marks) × FitsHeader head.1 head.0

abbrev pub AreHeadsOf : List Head → List TableChanges → Type 0
AreHeadsOf heads tables = All (λ table. All (λ head. IsHeadOf head table) heads) tables

-- the same table, key columns and changes
abbrev pub IsSameGroup : Group → Group → Type 0
IsSameGroup group other =
    (group.name ≡ other.name) × (marks_of group.marks ≡ marks_of other.marks) × (group.changes ≡ other.changes)

-- with headers of its tables a changeset stays the same but for the column bytes, and the reader takes it
abbrev pub StaysTheSame : Type 0
StaysTheSame =
    (heads : List Head) (tables : List TableChanges)
    → IsNormalChangeset tables
    → AreHeadsOf heads tables
    → AllZip IsSameGroup (for_sqlite heads tables) (groups_of tables) × FitsChangeset (for_sqlite heads tables)

-- groups that are the same but for the column bytes take as many bytes
abbrev pub SameLength : Type 0
SameLength =
    (groups others : List Group)
    → AllZip IsSameGroup groups others
    → length (changeset_spelling groups) ≡ length (changeset_spelling others)

-- headers that a catalog was made of are headers of the tables of each changeset of that catalog
abbrev pub HeadsOfCatalog : Type 0
HeadsOfCatalog =
    (changesets : List (List Group)) (tables : List TableChanges)
    → AllByRecursion FitsChangeset changesets
    → HaveCatalog (headers changesets)
    → FitsCatalog (tables_of_headers (headers changesets)) tables
    → AreHeadsOf (flat_map heads_of changesets) tables
