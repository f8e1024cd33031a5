-- What single steps of reading a log find.
use Rattle.std.specs.Prelude.{◌≡◌, ◌+◌, ◌≤◌, ⊤, ℕ, pos, List, [], ◌∷◌, length, map, take, slice_get, Result, Some, Ok, Err}
use Rattle.cs_normal.specs.declared.normal.TableChanges.{TableChanges}
use Rattle.cs_store.specs.log.Entry.{entry_changes}
use Rattle.cs_store.specs.log.Log.{catalog_next}
use Rattle.cs_store.specs.log.Stored.{IsEntryOf}
use Rattle.cs_store.specs.declared.log.entry.LogEntry.{LogEntry}
use Rattle.cs_store.specs.declared.log.entry.TheConstants.{MAX_CHANGESET}
use Rattle.cs_store.specs.declared.log.fault.BodyFault.{BodyFault}
use Rattle.cs_store.specs.declared.log.fault.BodyFault.TheVariants.{Memory, NoBody}
use Rattle.cs_value.specs.declared.catalog.TableDef.{TableDef}
use Rattle.cs_store.specs.Contents.{Contents, LogItem, log_range}
use Rattle.cs_hub.specs.catching.Catches.{IsToldAlone, NoneIsAlone}
use Rattle.cs_hub.specs.log_store.Shows.{item_of_entry}
use Rattle.cs_wire.specs.Entries.{ToldEntry}

-- the log has so many entries from a version on
abbrev pub HasRange : Contents → ℕ → ℕ → Type 0
HasRange contents first count = length (log_range contents first count) ≡ count

-- an entry is stored with the parts of one that an answer tells: its body is the kind, and what it does within the bound
pub record IsToldAs (stored : LogItem) (told : ToldEntry) : Type 0 where
  pub is : stored ≡ record { origin = pos told.origin; number = told.number; body = told.kind ∷ told.body }
  pub size : length told.body ≤ MAX_CHANGESET

-- so is each of a list
abbrev pub AreToldAs : List LogItem → List ToldEntry → Type 0
AreToldAs [] [] = ⊤
AreToldAs [] (told ∷ tolds) = ⊥
AreToldAs (item ∷ items) [] = ⊥
AreToldAs (item ∷ items) (told ∷ tolds) = IsToldAs item told × AreToldAs items tolds

-- an entry of the tables is stored so
pub record IsStoredAs (opening : List TableDef) (stored : LogItem) (entry : LogEntry) : Type 0 where
  pub is : stored ≡ item_of_entry entry
  pub fits : IsEntryOf opening entry

-- so is each of a list, from a version on, by the tables there. What it makes of these are the tables at the next version
abbrev pub AreStoredAs : (ℕ → List TableDef) → ℕ → List LogItem → List LogEntry → Type 0
AreStoredAs tables version [] [] = ⊤
AreStoredAs tables version [] (entry ∷ entries) = ⊥
AreStoredAs tables version (item ∷ items) [] = ⊥
AreStoredAs tables version (item ∷ items) (entry ∷ entries) =
    IsStoredAs (tables version) item entry × (tables (version + 1) ≡ catalog_next (tables version) entry)
    × AreStoredAs tables (version + 1) items entries

-- the entry is read, or memory is wanting
abbrev pub ReadsAs : LogEntry → Result LogEntry BodyFault → Type 0
ReadsAs entry (Ok read) = read ≡ entry
ReadsAs entry (Err Memory) = Unit {0}
ReadsAs entry (Err NoBody) = ⊥

-- ---- entries that may be told as one

-- the changesets of the first of some entries, up to the first that is told alone, if one is
pub record AreOthers (asker : ℕ) (entries : List LogEntry) (list : List (List TableChanges)) : Type 0 where
  pub there : length list ≤ length entries
  pub are : list ≡ map entry_changes (take (length list) entries)
  pub others : NoneIsAlone asker (take (length list) entries)
  pub ends : (entry : LogEntry) → slice_get entries (length list) ≡ Some entry → IsToldAlone asker entry
