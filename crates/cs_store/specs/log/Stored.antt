-- What an entry does as it is stored, and what reading that gives.
use Rattle.std.specs.Prelude.{◌≡◌, ℕ, ◌≤◌, List, ◌∷◌, length, slice_get, Some, Result, Ok, Err}
use Rattle.cs_value.specs.declared.catalog.TableDef.{TableDef}
use Rattle.cs_changeset.specs.declared.fault.CodecFault.{CodecFault}
use Rattle.cs_changeset.specs.declared.fault.CodecFault.TheVariants as codec
use Rattle.cs_normal.specs.Normal.{FitsCatalog, IsNormalChangeset, normal_spelling}
use Rattle.cs_normal.specs.declared.normal.TableChanges.{TableChanges}
use Rattle.cs_normalising.specs.declared.unfit.Unfit.{Unfit}
use Rattle.cs_normalising.specs.declared.unfit.Unfit.TheVariants as unfit
use Rattle.cs_store.specs.log.Entry.{MayWiden, body_spelling, changes_of_body, kind_of}
use Rattle.cs_store.specs.log.Log.{catalog_at}
use Rattle.cs_store.specs.declared.log.body.Body.{Body}
use Rattle.cs_store.specs.declared.log.entry.LogEntry.{LogEntry}
use Rattle.cs_store.specs.declared.log.entry.TheConstants.{MAX_CHANGESET}
use Rattle.cs_store.specs.declared.log.fault.BodyFault.{BodyFault}
use Rattle.cs_store.specs.declared.log.fault.BodyFault.TheVariants.{Memory, NoBody}

-- its kind, and its spelling
abbrev pub stored_body : Body → List ℕ
stored_body body = kind_of body ∷ body_spelling body

-- a body within the bound on an entry's bytes
abbrev pub IsWithinBound : Body → Type 0
IsWithinBound body = length (body_spelling body) ≤ MAX_CHANGESET

-- a changeset in normal form of these tables
abbrev pub AreChangesOf : List TableDef → List TableChanges → Type 0
AreChangesOf tables changes = IsNormalChangeset changes × FitsCatalog tables changes

-- a body of these tables that may be stored
pub record FitsBody (tables : List TableDef) (body : Body) : Type 0 where
  pub changes : AreChangesOf tables (changes_of_body body)
  pub widens : MayWiden tables body
  pub size : IsWithinBound body

-- an entry of these tables that may be stored
abbrev pub IsEntryOf : List TableDef → LogEntry → Type 0
IsEntryOf tables entry = FitsBody tables entry.body

-- each entry of a log that opened with these tables may be stored, by the catalog at its version
abbrev pub AreEntriesOf : List TableDef → List LogEntry → Type 0
AreEntriesOf opening log =
    (version : ℕ) (entry : LogEntry) → slice_get log version ≡ Some entry → IsEntryOf (catalog_at opening log version) entry

-- the body that fits these tables and is stored as these bytes, or that there is none; want of memory says nothing
abbrev pub ReadsBody : List TableDef → List ℕ → Result Body BodyFault → Type 0
ReadsBody tables bytes (Ok body) = FitsBody tables body × (bytes ≡ stored_body body)
ReadsBody tables bytes (Err Memory) = Unit {0}
ReadsBody tables bytes (Err NoBody) = (body : Body) → FitsBody tables body → bytes ≡ stored_body body → ⊥

-- the same of the changeset alone
abbrev pub ReadsChanges : List TableDef → List ℕ → Result (List TableChanges) BodyFault → Type 0
ReadsChanges tables bytes (Ok changes) = AreChangesOf tables changes × (bytes ≡ normal_spelling changes)
ReadsChanges tables bytes (Err Memory) = Unit {0}
ReadsChanges tables bytes (Err NoBody) =
    (changes : List TableChanges) → AreChangesOf tables changes → bytes ≡ normal_spelling changes → ⊥

-- bytes that spell no changeset, and changesets without a normal form, are stored for no body
abbrev pub body_fault_of_codec : CodecFault → BodyFault
body_fault_of_codec codec.Memory = Memory
body_fault_of_codec (codec.At fault offset) = NoBody

abbrev pub body_fault_of_unfit : Unfit → BodyFault
body_fault_of_unfit unfit.Memory = Memory
body_fault_of_unfit unfit.UnknownTable = NoBody
body_fault_of_unfit unfit.Shape = NoBody
body_fault_of_unfit unfit.NullKey = NoBody
body_fault_of_unfit unfit.KeyTwice = NoBody
