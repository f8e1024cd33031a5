-- What is read of a hub's log (profile of this project).
use Rattle.std.specs.Prelude.{ℕ, ◌+◌, ◌≤◌, List, length}
use Rattle.cs_value.specs.declared.catalog.TableDef.{TableDef}
use Rattle.cs_store.specs.declared.log.entry.LogEntry.{LogEntry}
use Rattle.cs_store.specs.Contents.{Contents}
use Rattle.cs_hub.specs.catching.Consolidated.{IsShort}
use Rattle.cs_hub.specs.declared.catching.caught.Caught.{Caught}
use Rattle.cs_hub.specs.declared.catching.caught.Caught.TheVariants.{Merged, Alone}
use Rattle.cs_hub.specs.log_store.Shows.{ShowsLog}
use Rattle.cs_hub.specs.log_store.Versions.{ShowsBy, Versions}

-- the store shows a log that has so many entries from a version on
abbrev pub ShowsEntries : List TableDef → Contents → ℕ → ℕ → Type 0
ShowsEntries opening contents first count =
    (log : List LogEntry) × ShowsLog opening contents log × (first + count ≤ length log)

-- the same, of a log that has these tables at its versions
abbrev pub ShowsEntriesBy : Versions → Contents → ℕ → ℕ → Type 0
ShowsEntriesBy versions contents first count =
    (log : List LogEntry) × ShowsBy versions contents log × (first + count ≤ length log)

-- what is told of it fits a message: a changeset has at most as many bytes as an entry's may have
abbrev pub CanBeTold : Caught → Type 0
CanBeTold Alone = Unit {0}
CanBeTold (Merged count changes) = IsShort changes
