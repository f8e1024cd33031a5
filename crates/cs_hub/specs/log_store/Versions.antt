-- The tables of a hub's log, version by version, as they are known without reading it (profile of this project).
use Rattle.std.specs.Prelude.{◌≡◌, ℕ, List, length, min}
use Rattle.cs_value.specs.declared.catalog.TableDef.{TableDef}
use Rattle.cs_store.specs.Contents.{Contents}
use Rattle.cs_store.specs.log.Widens.{WidenAt, catalog_by, widens_from}
use Rattle.cs_store.specs.declared.log.entry.LogEntry.{LogEntry}
use Rattle.cs_hub.specs.log_store.Shows.{ShowsLog}

-- the tables that a log opened with, how many entries it has, and the tables that it widened
pub record Versions : Type 0 where
  pub opening : List TableDef
  pub newest : ℕ
  pub widens : List WidenAt

-- the tables at a version
abbrev pub tables_by : Versions → ℕ → List TableDef
tables_by versions version = catalog_by versions.opening versions.widens version

-- those at the newest version
abbrev pub newest_tables : Versions → List TableDef
newest_tables versions = tables_by versions versions.newest

-- those by which a push with this base is judged: the tables there, or the newest where the base is above the log
abbrev pub judging_tables : Versions → ℕ → List TableDef
judging_tables versions base = tables_by versions (min base versions.newest)

-- the store shows a log that has these tables at its versions
abbrev pub ShowsBy : Versions → Contents → List LogEntry → Type 0
ShowsBy versions contents log =
    ShowsLog versions.opening contents log × (versions.newest ≡ length log) × (versions.widens ≡ widens_from 0 log)

abbrev pub ShowsSomeBy : Versions → Contents → Type 0
ShowsSomeBy versions contents = (log : List LogEntry) × ShowsBy versions contents log
