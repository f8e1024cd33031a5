-- What a changeset's bytes are read as, and what entry of the log an answer's entry is.
use Rattle.std.specs.Prelude.{◌≡◌, ℕ, List}
use Rattle.cs_value.specs.declared.catalog.TableDef.{TableDef}
use Rattle.cs_change.specs.Spelling.{FitsChangeset, changeset_spelling}
use Rattle.cs_change.specs.declared.group.Group.{Group}
use Rattle.cs_normal.specs.declared.normal.TableChanges.{TableChanges}
use Rattle.cs_normalising.specs.NormalFormOf.{IsNormalFormOf}
use Rattle.cs_store.specs.log.Entry.{MayWiden, kind_of, widen_spelling}
use Rattle.cs_store.specs.declared.log.body.Body.{Body}
use Rattle.cs_store.specs.declared.log.body.Body.TheVariants.{Changes, Widen}
use Rattle.cs_store.specs.declared.log.entry.LogEntry.{LogEntry}
use Rattle.cs_wire.specs.Entries.{ToldEntry}

-- the changeset that these bytes spell, in normal form by the tables
pub record IsFormOf (tables : List TableDef) (bytes : List ℕ) (changes : List TableChanges) : Type 0 where
  pub groups : List Group
  pub fits : FitsChangeset groups
  pub spelled : bytes ≡ changeset_spelling groups
  pub form : IsNormalFormOf tables groups changes

-- what an entry does that is told in these bytes: the changeset that they spell, in normal form. Or the columns and the name of a
-- table that may be widened so
abbrev pub IsReadBody : List TableDef → List ℕ → Body → Type 0
IsReadBody tables bytes (Changes changes) = IsFormOf tables bytes changes
IsReadBody tables bytes (Widen table width) = MayWiden tables (Widen table width) × (bytes ≡ widen_spelling table width)

-- it is of the kind that is told, and has the origin and the number that are told. What it does is told in its bytes
pub record IsReadAs (tables : List TableDef) (told : ToldEntry) (entry : LogEntry) : Type 0 where
  pub kind : told.kind ≡ kind_of entry.body
  pub origin : told.origin ≡ entry.origin
  pub number : told.number ≡ entry.number
  pub read : IsReadBody tables told.body entry.body
