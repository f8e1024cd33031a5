-- The laws of stores that show a hub's log.
use Rattle.std.specs.Prelude.{◌≡◌, List, length, [], ◌∷◌, ◌++◌, Some}
use Rattle.cs_value.specs.Catalog.{AreTables}
use Rattle.cs_value.specs.declared.catalog.TableDef.{TableDef}
use Rattle.cs_normal.specs.State.{State}
use Rattle.cs_store.specs.log.Log.{IsMade, IsNextEntry, catalog_at, catalog_next, state_of}
use Rattle.cs_store.specs.log.Stored.{IsEntryOf}
use Rattle.cs_store.specs.declared.log.entry.LogEntry.{LogEntry}
use Rattle.cs_store.specs.Contents.{Contents}
use Rattle.cs_store.specs.States.{AreEdits}
use Rattle.cs_store.specs.Written.{after_batch, optional_entry}
use Rattle.cs_store.specs.declared.batch.Batch.{Batch}
use Rattle.cs_hub.specs.log_store.Shows.{ShowsLog, item_of_entry}

-- contents show one log
abbrev pub OneLog : Type 0
OneLog =
    (opening : List TableDef) (contents : Contents) (some other : List LogEntry)
    → AreTables opening
    → ShowsLog opening contents some
    → ShowsLog opening contents other
    → some ≡ other

-- a batch of the next entry of the log, and of the edits that make what the entry makes of the rows. These are edits of the tables
-- that the catalog has behind the entry
pub record IsEntryBatch (opening : List TableDef) (contents : Contents) (log : List LogEntry) (entry : LogEntry) (batch : Batch) : Type 0 where
  pub next : IsNextEntry opening log entry
  pub fits : IsEntryOf (catalog_at opening log (length log)) entry
  pub after : State
  pub made : IsMade (catalog_at opening log (length log)) entry.body (state_of log) after
  pub edits : AreEdits (catalog_next (catalog_at opening log (length log)) entry) contents batch.rows after
  pub no_pending : batch.pending ≡ []
  pub no_meta : batch.meta.items ≡ []
  pub item : optional_entry batch.log ≡ Some (item_of_entry entry)

-- a commit of such a batch shows the longer log
abbrev pub AppendShows : Type 0
AppendShows =
    (opening : List TableDef) (contents : Contents) (log : List LogEntry) (entry : LogEntry) (batch : Batch)
    → AreTables opening
    → ShowsLog opening contents log
    → IsEntryBatch opening contents log entry batch
    → ShowsLog opening (after_batch batch contents) (log ++ entry ∷ [])

-- a hub without entries can be
abbrev pub FirstLogCanBe : Type 0
FirstLogCanBe = (opening : List TableDef) → AreTables opening → (contents : Contents) × ShowsLog opening contents []
