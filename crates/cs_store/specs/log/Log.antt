-- The state that a log makes, its tables and catalog at a version, and what a log is.
use Rattle.std.specs.Prelude.{◌≡◌, ℕ, List, [], ◌∷◌, length, take, drop, Some, None}
use Rattle.std.specs.List.{fold, slice_get}
use Rattle.std.specs.Option.{unwrap_or}
use Rattle.cs_value.specs.declared.catalog.TableDef.{TableDef}
use Rattle.cs_normal.specs.Normal.{IsNormalChangeset}
use Rattle.cs_normal.specs.State.{State, AreSame, IsApplied, IsDefinedOn, left_at}
use Rattle.cs_widening.specs.Widening.{CanWiden, widened, widened_tables}
use Rattle.cs_store.specs.log.Entry.{MayWiden, entry_changes}
use Rattle.cs_store.specs.declared.log.body.Body.{Body}
use Rattle.cs_store.specs.declared.log.body.Body.TheVariants.{Changes, Widen}
use Rattle.cs_store.specs.declared.log.entry.LogEntry.{LogEntry}

-- no row at any place
abbrev pub empty_state : State
empty_state name key = None

-- what stands at each place after what an entry does: what its change there leaves, or what stood there where that's not
-- defined. Or what stood there, with the columns that its table gets
abbrev pub after_body : State → Body → State
after_body state (Changes changes) = λ name key. unwrap_or (left_at changes state name key) (state name key)
after_body state (Widen table width) = widened table width state

abbrev pub after_entry : State → LogEntry → State
after_entry state entry = after_body state entry.body

-- the state that a log makes: of no row, entry by entry
abbrev pub state_of : List LogEntry → State
state_of log = fold after_entry empty_state log

-- the tables at a version: the state that the first entries make, as many as the version
abbrev pub tables_at : List LogEntry → ℕ → State
tables_at log version = state_of (take version log)

-- the catalog after what an entry does
abbrev pub catalog_after : List TableDef → Body → List TableDef
catalog_after tables (Changes changes) = tables
catalog_after tables (Widen table width) = widened_tables table width tables

abbrev pub catalog_next : List TableDef → LogEntry → List TableDef
catalog_next tables entry = catalog_after tables entry.body

-- the catalog of a log that opened with these tables
abbrev pub catalog_of : List TableDef → List LogEntry → List TableDef
catalog_of opening log = fold catalog_next opening log

-- the catalog at a version
abbrev pub catalog_at : List TableDef → List LogEntry → ℕ → List TableDef
catalog_at opening log version = catalog_of opening (take version log)

-- the entries from one version to another
abbrev pub entries_between : List LogEntry → ℕ → ℕ → List LogEntry
entries_between log from to = drop from (take to log)

-- an entry behind a log: a normal changeset of the tables that the catalog then has, with or without changes. Each
-- change is defined at its place on the tables that the log makes. Or a table of the catalog that may be widened so
pub record IsNextEntry (opening : List TableDef) (log : List LogEntry) (entry : LogEntry) : Type 0 where
  pub normal : IsNormalChangeset (entry_changes entry)
  pub defined : IsDefinedOn (catalog_at opening log (length log)) (entry_changes entry) (state_of log)
  pub widens : MayWiden (catalog_at opening log (length log)) entry.body

-- a log that opened with these tables: each entry is one behind those before it
abbrev pub IsLog : List TableDef → List LogEntry → Type 0
IsLog opening log =
    (version : ℕ) (entry : LogEntry) → slice_get log version ≡ Some entry → IsNextEntry opening (take version log) entry

-- ---- what entries make of a state

-- the changeset is applied, or the table can be widened so, and is
abbrev pub IsMade : List TableDef → Body → State → State → Type 0
IsMade tables (Changes changes) before end = IsApplied tables changes before end
IsMade tables (Widen table width) before end = CanWiden tables table width × AreSame (widened table width before) end

-- entries one after another, each by the catalog that those before it leave
abbrev pub AreMade : List TableDef → List LogEntry → State → State → Type 0
AreMade tables [] before end = AreSame before end
AreMade tables (entry ∷ others) before end =
    (middle : State) × IsMade tables entry.body before middle × AreMade (catalog_next tables entry) others middle end
