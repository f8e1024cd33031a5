-- A replica that stands on the entries that a thread knows of a log (profile of this project).
use Rattle.std.specs.Prelude.{◌≡◌, ◌≤◌, ℕ, List, ◌++◌, Some, slice_get, take}
use Rattle.cs_value.specs.Catalog.{AreTables}
use Rattle.cs_value.specs.declared.catalog.TableDef.{TableDef}
use Rattle.cs_normal.specs.State.{IsDefinedOn}
use Rattle.cs_store.specs.log.Entry.{MayWiden, entry_changes}
use Rattle.cs_store.specs.log.Log.{IsLog, catalog_at, catalog_of, entries_between, tables_at}
use Rattle.cs_store.specs.declared.log.entry.LogEntry.{LogEntry}
use Rattle.cs_store.specs.declared.store.RowStore.{Ghosts}
use Rattle.cs_pending.specs.View.{View}
use Rattle.cs_pending.specs.declared.position.position.Position.{Position}
use Rattle.cs_replica.specs.Holding.{Holding, Shows}
use Rattle.cs_replica.specs.Stands.{StandsOn}

-- the second list begins with the first
abbrev pub Begins : List LogEntry → List LogEntry → Type 0
Begins first second = (more : List LogEntry) × (second ≡ first ++ more)

-- from the one version to the other, which is not below it, the known entries make the other tables of these
pub record TablesGoOn (known : List LogEntry) (tables : List TableDef) (from : ℕ) (others : List TableDef) (to : ℕ) : Type 0 where
  pub onwards : from ≤ to
  pub catalog : others ≡ catalog_of tables (entries_between known from to)

-- the first entries, as many as the version, are a log that opened with some catalog's tables. Each is defined on the tables that those
-- before it make. What they make of the opening ones are these. Where what is pending and what is under way are taken back, what is left
-- is what the entries make together
pub record StandsIn (tables : List TableDef) (known : List LogEntry) (position : Position) (view : View) : Type 0 where
  pub opening : List TableDef
  pub of_catalog : AreTables opening
  pub front : IsLog opening (take position.version known)
  pub catalog : tables ≡ catalog_at opening known position.version
  pub stands : StandsOn known position view

-- where the store is honest, it shows a replica that stands there
abbrev pub StandsWhereHonest : {S : Type 0} → Ghosts S → List LogEntry → Holding S → Type 0
StandsWhereHonest g known held =
    g.honest held.store → (view : View) × Shows g.contents held view × StandsIn held.catalog known held.position view

-- the entry at a version is not defined on the tables that those before it make, or may not widen one of the catalog so
pub record IsBadAt (tables : List TableDef) (known : List LogEntry) (version : _) : Type 0 where
  pub entry : LogEntry
  pub here : slice_get known version ≡ Some entry
  pub undefined : IsDefinedOn tables (entry_changes entry) (tables_at known version) × MayWiden tables entry.body → ⊥
