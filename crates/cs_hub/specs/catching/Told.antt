-- What is said where a replica is told entries as one: that these are the log's, and others' (profile of this project).
use Rattle.std.specs.Prelude.{◌≡◌, ◌≢◌, ◌≤◌, ℕ, List, All, length}
use Rattle.cs_value.specs.declared.catalog.TableDef.{TableDef}
use Rattle.cs_normal.specs.Normal.{normal_spelling}
use Rattle.cs_normal.specs.declared.normal.TableChanges.{TableChanges}
use Rattle.cs_store.specs.log.Entry.{WidensNone}
use Rattle.cs_store.specs.log.Log.{entries_between}
use Rattle.cs_store.specs.declared.log.entry.LogEntry.{LogEntry}
use Rattle.cs_hub.specs.catching.Consolidated.{IsConsolidated}

-- the bytes are those of the log's entries from the one version to the other, as one changeset. None of these has this origin, and
-- none widens a table
pub record AreOthersAsOne (tables : List TableDef) (log : List LogEntry) (origin first next : ℕ) (bytes : List ℕ) : Type 0 where
  pub rising : first ≤ next
  pub within : next ≤ length log
  pub changes : List TableChanges
  pub spelled : bytes ≡ normal_spelling changes
  pub together : IsConsolidated tables (entries_between log first next) changes
  pub others : All (λ entry. entry.origin ≢ origin) (entries_between log first next)
  pub plain : All (λ entry. WidensNone entry.body) (entries_between log first next)
