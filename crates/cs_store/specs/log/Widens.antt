-- The tables that a log widens: by them whoever keeps a log knows the catalog at each version without reading it.
use Rattle.std.specs.Prelude.{◌≡◌, ℕ, ◌+◌, nat_lt, if◌then◌else◌, List, [], ◌∷◌, ◌++◌, length}
use Rattle.cs_value.specs.declared.catalog.TableDef.{TableDef}
use Rattle.cs_widening.specs.Widening.{widened_tables}
use Rattle.cs_store.specs.log.Log.{catalog_at}
use Rattle.cs_store.specs.declared.log.body.Body.{Body}
use Rattle.cs_store.specs.declared.log.body.Body.TheVariants.{Changes, Widen}
use Rattle.cs_store.specs.declared.log.entry.LogEntry.{LogEntry}

-- a table that gets so many columns, by the entry at a version
pub record WidenAt : Type 0 where
  pub at : ℕ
  pub table : List ℕ
  pub width : ℕ

abbrev pub widen_at : ℕ → Body → List WidenAt
widen_at version (Changes changes) = []
widen_at version (Widen table width) = record { at = version; table = table; width = width } ∷ []

-- those of a log, of which the first entry stands at this version
abbrev pub widens_from : ℕ → List LogEntry → List WidenAt
widens_from version [] = []
widens_from version (entry ∷ log) = widen_at version entry.body ++ widens_from (version + 1) log

-- the catalog at a version, by those: each that stands below it counts
abbrev pub catalog_by : List TableDef → List WidenAt → ℕ → List TableDef
catalog_by opening [] version = opening
catalog_by opening (one ∷ more) version =
    if nat_lt one.at version then catalog_by (widened_tables one.table one.width opening) more version else opening

-- it is the catalog at that version
abbrev pub CatalogByWidens : Type 0
CatalogByWidens =
    (opening : List TableDef) (log : List LogEntry) (version : ℕ)
    → catalog_by opening (widens_from 0 log) version ≡ catalog_at opening log version

-- one entry more
abbrev pub WidensGrow : Type 0
WidensGrow =
    (log : List LogEntry) (entry : LogEntry)
    → widens_from 0 (log ++ entry ∷ []) ≡ widens_from 0 log ++ widen_at (length log) entry.body
