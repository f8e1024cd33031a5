-- The laws of appending.
use Rattle.std.specs.Prelude.{◌≡◌, ◌⊎◌, List}
use Rattle.cs_value.specs.declared.catalog.TableDef.{TableDef}
use Rattle.cs_normal.specs.State.{State, IsDefinedOn}
use Rattle.cs_normal.specs.declared.normal.TableChanges.{TableChanges}
use Rattle.cs_store.specs.log.Stored.{AreChangesOf}
use Rattle.cs_conflict.specs.declared.conflict.Conflict.{Conflict}
use Rattle.cs_hub.specs.appending.Appended.{IsFirstConflict}

-- a changeset has one first conflict with the rows
abbrev pub OneFirstConflict : Type 0
OneFirstConflict =
    (tables : List TableDef) (changes : List TableChanges) (before : State) (some other : Conflict)
    → IsFirstConflict tables changes before some
    → IsFirstConflict tables changes before other
    → some ≡ other

-- there is one, or the changeset is defined on the rows
abbrev pub DefinedOrConflict : Type 0
DefinedOrConflict =
    (tables : List TableDef) (changes : List TableChanges) (before : State)
    → AreChangesOf tables changes
    → IsDefinedOn tables changes before ⊎ ((conflict : Conflict) × IsFirstConflict tables changes before conflict)
