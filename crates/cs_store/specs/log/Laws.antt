-- The laws of logs.
use Rattle.std.specs.Prelude.{◌≡◌, ◌⊎◌, ◌+◌, ℕ, ◌≤◌, List, All, [], ◌∷◌, ◌++◌, length, map, option_map, take, slice_get, Some}
use Rattle.cs_value.specs.Catalog.{AreTables}
use Rattle.cs_value.specs.declared.catalog.TableDef.{TableDef}
use Rattle.cs_normal.specs.Normal.{IsNormalChangeset}
use Rattle.cs_normal.specs.State.{State, AreApplied, AreSame, IsDefinedOn, IsStateOf}
use Rattle.cs_normal.specs.declared.normal.TableChanges.{TableChanges}
use Rattle.cs_store.specs.log.Entry.{MayWiden, WidensNone, changes_of_body, entry_changes}
use Rattle.cs_store.specs.log.Log.{AreMade, IsLog, IsMade, IsNextEntry, catalog_after, catalog_at, empty_state, entries_between, state_of, tables_at}
use Rattle.cs_store.specs.log.Stored.{AreChangesOf, stored_body}
use Rattle.cs_store.specs.declared.log.body.Body.{Body}
use Rattle.cs_store.specs.declared.log.entry.LogEntry.{LogEntry}

-- no entry is a log
abbrev pub EmptyIsLog : Type 0
EmptyIsLog = (opening : List TableDef) → IsLog opening []

-- a log and its next entry are a log
abbrev pub AppendedIsLog : Type 0
AppendedIsLog =
    (opening : List TableDef) (log : List LogEntry) (entry : LogEntry)
    → IsLog opening log
    → IsNextEntry opening log entry
    → IsLog opening (log ++ entry ∷ [])

-- the front of a log is a log
abbrev pub FrontIsLog : Type 0
FrontIsLog = (opening : List TableDef) (log more : List LogEntry) → IsLog opening (log ++ more) → IsLog opening log

-- a longer log has the same catalog and the same tables at the versions that there were
abbrev pub LongerLog : Type 0
LongerLog =
    (opening : List TableDef) (log more : List LogEntry) (version : ℕ)
    → version ≤ length log
    → (catalog_at opening (log ++ more) version ≡ catalog_at opening log version)
    × (tables_at (log ++ more) version ≡ tables_at log version)

-- where the first entries lead from no row to a state, each defined on what the earlier ones left, that state is the tables
-- at their version
abbrev pub OneStateAVersion : Type 0
OneStateAVersion =
    (opening : List TableDef) (log : List LogEntry) (version : ℕ) (state : State)
    → AreMade opening (take version log) empty_state state
    → AreSame (tables_at log version) state

-- the entries between two versions lead from the tables at the first to those at the second
abbrev pub Slices : Type 0
Slices =
    (opening : List TableDef) (log : List LogEntry) (from to : ℕ)
    → IsLog opening log
    → from ≤ to
    → AreMade (catalog_at opening log from) (entries_between log from to) (tables_at log from) (tables_at log to)

-- where none of them widens a table, their changesets are applied one after another by one catalog
abbrev pub PlainSlices : Type 0
PlainSlices =
    (opening : List TableDef) (log : List LogEntry) (from to : ℕ)
    → IsLog opening log
    → from ≤ to
    → All (λ entry. WidensNone entry.body) (entries_between log from to)
    → AreApplied (catalog_at opening log from) (map entry_changes (entries_between log from to)) (tables_at log from) (tables_at log to)

-- the state that a log makes is that of its entries, each made on what the earlier ones left
abbrev pub LogIsApplied : Type 0
LogIsApplied =
    (opening : List TableDef) (log : List LogEntry) → IsLog opening log
    → AreMade opening log empty_state (state_of log)

-- what an entry makes of the tables at its version are those at the next one
abbrev pub EntryLeads : Type 0
EntryLeads =
    (opening : List TableDef) (log : List LogEntry) (version : ℕ) (entry : LogEntry) (before end : State)
    → slice_get log version ≡ Some entry
    → AreSame (tables_at log version) before
    → IsMade (catalog_at opening log version) entry.body before end
    → AreSame (tables_at log (version + 1)) end

-- and what it makes of the catalog is the next one
abbrev pub CatalogNext : Type 0
CatalogNext =
    (opening : List TableDef) (log : List LogEntry) (version : ℕ) (entry : LogEntry)
    → slice_get log version ≡ Some entry
    → catalog_at opening log (version + 1) ≡ catalog_after (catalog_at opening log version) entry.body

-- the tables at a version are a state of the catalog's tables
abbrev pub LogStates : Type 0
LogStates =
    (opening : List TableDef) (log : List LogEntry) (version : ℕ)
    → AreTables opening
    → IsLog opening log
    → IsStateOf (catalog_at opening log version) (tables_at log version)

-- the catalog at each version is one
abbrev pub CatalogsAreTables : Type 0
CatalogsAreTables =
    (opening : List TableDef) (log : List LogEntry) (version : ℕ)
    → AreTables opening
    → IsLog opening log
    → AreTables (catalog_at opening log version)

-- a changeset is defined on a state or it isn't
abbrev pub DefinedOrNot : Type 0
DefinedOrNot =
    (tables : List TableDef) (changes : List TableChanges) (state : State)
    → IsDefinedOn tables changes state ⊎ (IsDefinedOn tables changes state → ⊥)

-- an entry with a normal changeset is the next of a log or it isn't
abbrev pub NextOrNot : Type 0
NextOrNot =
    (opening : List TableDef) (log : List LogEntry) (entry : LogEntry)
    → IsNormalChangeset (entry_changes entry)
    → IsNextEntry opening log entry ⊎ (IsNextEntry opening log entry → ⊥)

-- no two bodies of a catalog's tables are stored as the same bytes
abbrev pub OneBody : Type 0
OneBody =
    (tables : List TableDef) (some other : Body)
    → AreTables tables
    → AreChangesOf tables (changes_of_body some)
    → AreChangesOf tables (changes_of_body other)
    → MayWiden tables some
    → MayWiden tables other
    → stored_body some ≡ stored_body other
    → some ≡ other

-- whose push an entry is, its number, and what it does, as it is stored
abbrev pub stored_entry : LogEntry → ℕ × ℕ × List ℕ
stored_entry entry = (entry.origin, entry.number, stored_body entry.body)

-- no two logs of the same opening tables are stored alike: each body is read by the catalog that those before it make
abbrev pub OneStoredLog : Type 0
OneStoredLog =
    (opening : List TableDef) (some other : List LogEntry)
    → AreTables opening
    → IsLog opening some
    → IsLog opening other
    → ((version : ℕ) → option_map stored_entry (slice_get some version) ≡ option_map stored_entry (slice_get other version))
    → some ≡ other
