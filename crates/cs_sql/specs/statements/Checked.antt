-- Whether what the tables hold is what its places say.
use Rattle.std.specs.Prelude.{◌≡◌, ℕ, List, Some}
use Rattle.std.specs.FinMap.{get}
use Rattle.cs_value.specs.declared.catalog.TableDef.{TableDef}
use Rattle.sqlite.specs.Order.{Row, column}
use Rattle.sqlite.specs.Edit.{id_in}
use Rattle.sqlite_value.specs.Order.{bytes}
use Rattle.cs_store.specs.Contents.{Contents, StorePlace}
use Rattle.cs_store.specs.Whole.{AtTable, IsName, StoresChange, StoresRow}
use Rattle.cs_sql.specs.declared.parts.Part.{Part}
use Rattle.cs_sql.specs.declared.parts.Part.TheVariants as part
use Rattle.cs_sql.specs.declared.statements.checking.Unordered.{Unordered}
use Rattle.cs_sql.specs.declared.statements.checking.Unordered.TheVariants.{Rows, Pending, Meta}

-- a place and a body, as a row of an answer shows them
abbrev pub place_read : Row → StorePlace
place_read row = (id_in (column row 0), bytes (column row 1))

abbrev pub part_of : Unordered → Part
part_of Rows = part.Rows
part_of Pending = part.Pending
part_of Meta = part.Meta

-- the row of an answer is of the catalog's tables. It is a row or a pending change at its own place, or a name of ours
abbrev pub ShowsOwn : Unordered → List TableDef → Row → Type 0
ShowsOwn Rows tables row = AtTable StoresRow tables (place_read row) (bytes (column row 2))
ShowsOwn Pending tables row = AtTable StoresChange tables (place_read row) (bytes (column row 2))
ShowsOwn Meta tables row = IsName (bytes (column row 0))

-- all that one of the tables holds is
abbrev pub HasOwn : Unordered → List TableDef → Contents → Type 0
HasOwn Rows tables contents = (place : StorePlace) (body : List ℕ) → get contents.rows place ≡ Some body → AtTable StoresRow tables place body
HasOwn Pending tables contents = (place : StorePlace) (body : List ℕ) → get contents.pending place ≡ Some body → AtTable StoresChange tables place body
HasOwn Meta tables contents = (name value : List ℕ) → get contents.meta name ≡ Some value → IsName name
