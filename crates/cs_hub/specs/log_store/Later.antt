-- What is kept of the tables that a log widened: no definition that a public clause cites.
use Rattle.std.specs.Prelude.{◌≡◌, List, [], ◌∷◌, Option, Some, None}
use Rattle.cs_value.specs.declared.catalog.TableDef.{TableDef}
use Rattle.cs_store.specs.log.Widens.{WidenAt}
use Rattle.cs_widening.specs.Widening.{widened_tables}
use Rattle.cs_hub.specs.declared.log_store.catalogs.Later.{Later}

-- which table was widened, where and how
abbrev pub widen_of : Later → WidenAt
widen_of later = record { at = later.at; table = later.table; width = later.width }

-- it keeps the tables that come of these
abbrev pub ComesOf : List TableDef → Later → Type 0
ComesOf tables later = later.catalog ≡ widened_tables later.table later.width tables

-- so does each of a list, of those that come of the one before it
abbrev pub AreLater : List TableDef → List Later → Type 0
AreLater tables [] = Unit {0}
AreLater tables (later ∷ others) = ComesOf tables later × AreLater later.catalog others

-- the tables behind all of them
abbrev pub tables_behind : List TableDef → List WidenAt → List TableDef
tables_behind tables [] = tables
tables_behind tables (one ∷ others) = tables_behind (widened_tables one.table one.width tables) others

-- the one that there is, or none
abbrev pub widens_in : Option Later → List WidenAt
widens_in None = []
widens_in (Some later) = widen_of later ∷ []
