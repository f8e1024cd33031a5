-- What a hub is seen as.
use Rattle.std.specs.Prelude.{ℕ, List, [], ◌∷◌, ◌++◌, length, min, take, drop}
use Rattle.cs_value.specs.declared.catalog.TableDef.{TableDef}
use Rattle.cs_store.specs.log.Log.{catalog_at}
use Rattle.cs_store.specs.declared.log.entry.LogEntry.{LogEntry}

-- the tables that the hub opened with, and the pushes that were taken
pub record HubState : Type 0 where
  pub opening : List TableDef
  pub log : List LogEntry

-- a hub that has taken nothing yet
abbrev pub fresh : List TableDef → HubState
fresh tables = record { opening = tables; log = [] }

-- the tables that are synced at the newest version
abbrev pub synced : HubState → List TableDef
synced hub = catalog_at hub.opening hub.log (length hub.log)

-- the tables by which a push with this base is judged: those at the base, or at the newest version where that is below it
abbrev pub judging : HubState → ℕ → List TableDef
judging hub base = catalog_at hub.opening hub.log (min base (length hub.log))

-- a hub that has taken one push more
abbrev pub with_entry : HubState → LogEntry → HubState
with_entry hub entry = record { opening = hub.opening; log = hub.log ++ entry ∷ [] }

-- the entries from one on, so many at most
abbrev pub entries_from : ℕ → ℕ → List LogEntry → List LogEntry
entries_from first limit log = take limit (drop first log)
