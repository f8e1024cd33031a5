-- The laws of catching up.
use Rattle.std.specs.Prelude.{◌≡◌, ◌+◌, ◌≤◌, ℕ, List, All, drop, length, take, ◌++◌}
use Rattle.cs_value.specs.Catalog.{AreTables}
use Rattle.cs_value.specs.declared.catalog.TableDef.{TableDef}
use Rattle.cs_normal.specs.Normal.{normal_spelling}
use Rattle.cs_normal.specs.State.{IsApplied}
use Rattle.cs_normal.specs.declared.normal.TableChanges.{TableChanges}
use Rattle.cs_store.specs.log.Log.{IsLog, catalog_at, entries_between, tables_at}
use Rattle.cs_store.specs.log.Entry.{WidensNone, entry_changes}
use Rattle.cs_store.specs.log.Stored.{AreChangesOf}
use Rattle.cs_store.specs.declared.log.entry.LogEntry.{LogEntry}
use Rattle.cs_hub.specs.catching.Catches.{Catches}
use Rattle.cs_hub.specs.catching.Consolidated.{IsConsolidated, IsShort}
use Rattle.cs_hub.specs.catching.Told.{AreOthersAsOne}
use Rattle.cs_hub.specs.declared.catching.caught.Caught.{Caught}
use Rattle.cs_hub.specs.declared.catching.caught.Caught.TheVariants.{Merged}

-- entries are one changeset
abbrev pub OneConsolidated : Type 0
OneConsolidated =
    (tables : List TableDef) (entries : List LogEntry) (some other : List TableChanges)
    → AreTables tables
    → IsConsolidated tables entries some
    → IsConsolidated tables entries other
    → some ≡ other

-- whoever asks is told one thing
abbrev pub OneCatch : Type 0
OneCatch =
    (tables : List TableDef) (asker limit : ℕ) (entries : List LogEntry) (some other : Caught)
    → AreTables tables
    → Catches tables asker limit entries some
    → Catches tables asker limit entries other
    → some ≡ other

-- and is told something, of entries that change these tables as long as none has widened one
abbrev pub CatchHasAnswer : Type 0
CatchHasAnswer =
    (tables : List TableDef) (asker limit : ℕ) (entries : List LogEntry)
    → AreTables tables
    → ((count : ℕ) → All (λ entry. WidensNone entry.body) (take count entries)
    → All (λ entry. AreChangesOf tables (entry_changes entry)) (take count entries))
    → (caught : Caught) × Catches tables asker limit entries caught

-- the entries of a log between two versions, none of which widens a table, lead as one changeset from the tables at the first to
-- those at the second
abbrev pub ConsolidatedLeads : Type 0
ConsolidatedLeads =
    (opening : List TableDef) (log : List LogEntry) (from to : ℕ) (changes : List TableChanges)
    → AreTables opening
    → IsLog opening log
    → from ≤ to
    → to ≤ length log
    → All (λ entry. WidensNone entry.body) (entries_between log from to)
    → IsConsolidated (catalog_at opening log from) (entries_between log from to) changes
    → IsApplied (catalog_at opening log from) changes (tables_at log from) (tables_at log to)

-- they are the same ones as the log grows
abbrev pub SameEntries : Type 0
SameEntries =
    (log more : List LogEntry) (from to : ℕ)
    → to ≤ length log
    → entries_between (log ++ more) from to ≡ entries_between log from to

-- what whoever asks is told as one has at most as many bytes as an entry's changeset may have
abbrev pub CaughtIsShort : Type 0
CaughtIsShort =
    (tables : List TableDef) (asker limit : ℕ) (entries : List LogEntry) (count : ℕ) (changes : List TableChanges)
    → AreTables tables
    → Catches tables asker limit entries (Merged count changes)
    → IsShort changes

-- it is others', and the log's
abbrev pub CaughtAreOthers : Type 0
CaughtAreOthers =
    (tables : List TableDef) (log : List LogEntry) (asker limit first count : ℕ) (changes : List TableChanges)
    → first ≤ length log
    → Catches tables asker limit (drop first log) (Merged count changes)
    → AreOthersAsOne tables log asker first (first + count) (normal_spelling changes)

-- and stays so as the log grows
abbrev pub OthersAsLogGrows : Type 0
OthersAsLogGrows =
    (tables : List TableDef) (log more : List LogEntry) (origin first next : ℕ) (bytes : List ℕ)
    → AreOthersAsOne tables log origin first next bytes
    → AreOthersAsOne tables (log ++ more) origin first next bytes
