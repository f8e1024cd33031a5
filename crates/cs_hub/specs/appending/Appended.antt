-- An entry that is appended to the log that a store shows (profile of this project).
use Rattle.std.specs.Prelude.{◌≡◌, List, length, [], ◌∷◌, ◌++◌}
use Rattle.cs_value.specs.declared.catalog.TableDef.{TableDef}
use Rattle.cs_normal.specs.Normal.{groups_of}
use Rattle.cs_normal.specs.State.{State}
use Rattle.cs_normal.specs.declared.normal.TableChanges.{TableChanges}
use Rattle.cs_store.specs.log.Entry.{entry_changes}
use Rattle.cs_store.specs.log.Log.{IsNextEntry, catalog_at, state_of}
use Rattle.cs_store.specs.declared.log.entry.LogEntry.{LogEntry}
use Rattle.cs_conflict.specs.declared.conflict.Conflict.{Conflict}
use Rattle.cs_conflict.specs.declared.conflict.Resolution.{Resolution}
use Rattle.cs_conflict.specs.declared.conflict.Resolution.TheVariants.{Abort}
use Rattle.cs_store.specs.Contents.{Contents}
use Rattle.cs_store.specs.Written.{after_batch}
use Rattle.cs_store.specs.declared.batch.Batch.{Batch}
use Rattle.cs_apply.specs.Calls.{IsStoppedAt}
use Rattle.cs_hub.specs.log_store.Shows.{ShowsLog}
use Rattle.cs_hub.specs.log_store.Versions.{ShowsBy, Versions}
use Rattle.cs_hub.specs.declared.appending.fault.AppendFault.{AppendFault}
use Rattle.cs_hub.specs.declared.appending.fault.AppendFault.TheVariants.{Memory, Conflict as OnConflict, Device}

-- what asks nobody, and answers ABORT whatever it is shown
abbrev pub aborts : Unit {0} → Conflict → Resolution → Unit {0} → Type 0
aborts before conflict answer after = answer ≡ Abort

-- the first conflict of the changeset with the rows. Applying it stops at this one, where ABORT is the answer to each (SQLite's
-- "Session Extension", `sqlite3changeset_apply_v2`)
abbrev pub IsFirstConflict : List TableDef → List TableChanges → State → Conflict → Type 0
IsFirstConflict tables changes before conflict = IsStoppedAt aborts tables (groups_of changes) before tt Abort conflict tt

-- contents after the entry is appended: it is defined behind the log that was shown, and the longer log is shown
abbrev pub IsAppendedIn : Versions → LogEntry → Contents → Contents → Type 0
IsAppendedIn versions entry old new =
    (log : List LogEntry) → ShowsBy versions old log
    → IsNextEntry versions.opening log entry × ShowsLog versions.opening new (log ++ entry ∷ [])

-- a commit of the batch leaves contents in which the entry is appended
abbrev pub AppendsEntry : Versions → LogEntry → Contents → Batch → Type 0
AppendsEntry versions entry contents batch = IsAppendedIn versions entry contents (after_batch batch contents)

-- why it isn't: it isn't defined behind the log, and this is the first conflict; Memory and Device may come before
abbrev pub IsAppendFault : List TableDef → List LogEntry → LogEntry → AppendFault → Type 0
IsAppendFault opening log entry Memory = Unit {0}
IsAppendFault opening log entry (OnConflict conflict) =
    (IsNextEntry opening log entry → ⊥) × IsFirstConflict (catalog_at opening log (length log)) (entry_changes entry) (state_of log) conflict
IsAppendFault opening log entry Device = Unit {0}
