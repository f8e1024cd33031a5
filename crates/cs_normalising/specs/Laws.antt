-- The laws of how a normal form is made.
use Rattle.std.specs.Prelude.{◌≡◌, ◌≢◌, ◌⊎◌, ℕ, Bool, true, false, List, [], ◌∷◌, Some}
use Rattle.std.specs.List.{AllByRecursion}
use Rattle.cs_value.specs.Catalog.{AreTables}
use Rattle.cs_value.specs.Key.{Place, FitsPlace, HasKey}
use Rattle.cs_value.specs.declared.catalog.TableDef.{TableDef}
use Rattle.cs_value.specs.declared.value.Value.{Value}
use Rattle.cs_value.specs.declared.value.Field.{Field}
use Rattle.cs_value.specs.declared.value.Field.TheVariants.{Undefined, Is}
use Rattle.cs_change.specs.Action.{action, action_any, after, after_any}
use Rattle.cs_change.specs.Normal.{IsNormalIfAny}
use Rattle.cs_change.specs.Spelling.{FitsChangeset}
use Rattle.cs_change.specs.declared.change.Change.{Change}
use Rattle.cs_change.specs.declared.change.Change.TheVariants.{Insert, Delete, Update}
use Rattle.cs_change.specs.declared.group.Group.{Group}
use Rattle.cs_normal.specs.keyed.Changes.{Changes, change_at, IsEntry}
use Rattle.cs_normal.specs.keyed.NormalForm.{keyed, normal_form, normal_form_any, IsNormalOf}
use Rattle.cs_normal.specs.Headers.{headers, tables_of_headers, HasTwoShapes}
use Rattle.cs_normal.specs.Normal.{FitsCatalog, IsNormalChangeset, groups_of}
use Rattle.cs_normal.specs.declared.normal.TableChanges.{TableChanges}
use Rattle.cs_normal.specs.State.{IsApplied, IsStateOf, State, IsAfterGroups}
use Rattle.cs_normalising.specs.NormalFormOf.{AreFit, HaveTables, IsNormalFormOf, IsUnfit}
use Rattle.cs_normalising.specs.declared.unfit.Unfit.{Unfit}
use Rattle.cs_normalising.specs.declared.unfit.Unfit.TheVariants.{Memory}

-- the records of an update as read: the key in the old one, and perhaps again in the new one. Each modified column in
-- both, any other column perhaps in the old one
pub data LenientUpdate : List Bool → List Value → List Field → List Field → Type 0 where
  no_column : LenientUpdate [] [] [] []
  key_column : (k : Value) {marks : List Bool} {key : List Value} {old new : List Field}
      → LenientUpdate marks key old new → LenientUpdate (true ∷ marks) (k ∷ key) (Is k ∷ old) (Undefined ∷ new)
  key_again : (k : Value) {marks : List Bool} {key : List Value} {old new : List Field}
      → LenientUpdate marks key old new → LenientUpdate (true ∷ marks) (k ∷ key) (Is k ∷ old) (Is k ∷ new)
  unmodified : (o : Field) {marks : List Bool} {key : List Value} {old new : List Field}
      → LenientUpdate marks key old new → LenientUpdate (false ∷ marks) key (o ∷ old) (Undefined ∷ new)
  modified : (u v : Value) {marks : List Bool} {key : List Value} {old new : List Field}
      → LenientUpdate marks key old new → LenientUpdate (false ∷ marks) key (Is u ∷ old) (Is v ∷ new)

-- a change of the place with this key that the reader takes
abbrev pub IsLenient : List Bool → List Value → Change → Type 0
IsLenient marks key (Insert flag new) = HasKey marks key new
IsLenient marks key (Delete flag old) = HasKey marks key old
IsLenient marks key (Update flag old new) = LenientUpdate marks key old new

-- the normal form of a change is normal. Where the change is defined on a row of its key or none, so is its normal
-- form, and it leaves the same
abbrev pub NormalFormKeeps : Type 0
NormalFormKeeps =
    (marks : List Bool) (key : List Value) (change : Change)
    → IsLenient marks key change
    → IsNormalIfAny marks key (action_any (normal_form marks change))
    × ((base end : Place) → FitsPlace marks key base → after (action change) base ≡ Some end
    → after_any (action_any (normal_form marks change)) base ≡ Some end)

-- a changeset that fits has no fault
abbrev pub NoFaultWhereFit : Type 0
NoFaultWhereFit =
    (fault : Unfit) (tables : List TableDef) (groups : List Group)
    → AreTables tables
    → AreFit tables groups
    → IsUnfit fault tables groups
    → fault ≡ Memory

-- a changeset has one fault
abbrev pub OneUnfit : Type 0
OneUnfit =
    (some other : Unfit) (tables : List TableDef) (groups : List Group)
    → AreTables tables
    → IsUnfit some tables groups
    → IsUnfit other tables groups
    → some ≢ Memory
    → other ≢ Memory
    → some ≡ other

-- a changeset that fits has a normal form
abbrev pub FitHasForm : Type 0
FitHasForm =
    (tables : List TableDef) (groups : List Group)
    → AreTables tables
    → FitsChangeset groups
    → AreFit tables groups
    → (form : List TableChanges) × IsNormalFormOf tables groups form

-- there is one: a changeset has a normal form by a catalog's tables, or a fault
abbrev pub FormOrUnfit : Type 0
FormOrUnfit =
    (tables : List TableDef) (groups : List Group)
    → AreTables tables
    → FitsChangeset groups
    → ((form : List TableChanges) × IsNormalFormOf tables groups form)
    ⊎ ((fault : Unfit) × (fault ≢ Memory) × IsUnfit fault tables groups)

-- where each name has one shape, the groups of each changeset are of the tables of all headers
abbrev pub HeadersHaveTables : Type 0
HeadersHaveTables =
    (changesets : List (List Group))
    → (HasTwoShapes (headers changesets) → ⊥)
    → AllByRecursion (HaveTables (tables_of_headers (headers changesets))) changesets

-- at each key of a normal form stands the normal form of the change that was read with it
abbrev pub FormAtKey : Type 0
FormAtKey =
    (marks : List Bool) (changes : List Change) (form : Changes)
    → IsNormalOf marks changes form
    → (key : List ℕ) → change_at key form ≡ normal_form_any marks (change_at key (keyed marks changes))

-- a change in normal form is its own normal form
abbrev pub NormalIsItsForm : Type 0
NormalIsItsForm =
    (marks : List Bool) (bytes : List ℕ) (change : Change)
    → IsEntry marks (bytes, change)
    → normal_form marks change ≡ Some change

-- a changeset has one normal form by a catalog
abbrev pub OneNormalForm : Type 0
OneNormalForm =
    (tables : List TableDef) (groups : List Group) (some others : List TableChanges)
    → AreTables tables
    → IsNormalFormOf tables groups some
    → IsNormalFormOf tables groups others
    → some ≡ others

-- a changeset in normal form, read again as it is written, is its own normal form
abbrev pub NormalAgain : Type 0
NormalAgain =
    (tables : List TableDef) (normal : List TableChanges)
    → AreTables tables
    → IsNormalChangeset normal
    → FitsCatalog tables normal
    → IsNormalFormOf tables (groups_of normal) normal

-- where each change of a changeset is defined on what the earlier ones left, so is the normal form, and it leaves the same
abbrev pub NormalFormLeads : Type 0
NormalFormLeads =
    (tables : List TableDef) (groups : List Group) (normal : List TableChanges) (before end : State)
    → AreTables tables
    → FitsChangeset groups
    → IsNormalFormOf tables groups normal
    → IsStateOf tables before
    → IsAfterGroups groups before end
    → IsApplied tables normal before end
