-- What a hub over a store holds (profile of this project).
use Rattle.std.specs.Prelude.{ℕ, List}
use Rattle.cs_value.specs.declared.catalog.TableDef.{TableDef}
use Rattle.cs_store.specs.Contents.{Contents}
use Rattle.cs_store.specs.log.Widens.{WidenAt}
use Rattle.cs_store.specs.declared.log.entry.LogEntry.{LogEntry}
use Rattle.cs_hub.specs.log_store.Versions.{ShowsBy, ShowsSomeBy, Versions}

-- a store, the tables that the hub opened with, how many entries its log has, and the tables that it widened
pub record Holding (S : Type 0) : Type 0 where
  pub store : S
  pub catalog : List TableDef
  pub newest : ℕ
  pub widens : List WidenAt

-- the tables of its log, version by version
abbrev pub versions_of : {S : Type 0} → Holding S → Versions
versions_of held = record { opening = held.catalog; newest = held.newest; widens = held.widens }

-- its store shows this log, which has as many entries and widened these tables
abbrev pub Shows : {S : Type 0} → (S → Contents) → Holding S → List LogEntry → Type 0
Shows contents held log = ShowsBy (versions_of held) (contents held.store) log

-- its store shows a log
abbrev pub ShowsSome : {S : Type 0} → (S → Contents) → Holding S → Type 0
ShowsSome contents held = ShowsSomeBy (versions_of held) (contents held.store)
