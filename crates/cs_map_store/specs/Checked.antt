-- What a check of a `MapStore` asks of each body.
use Rattle.std.specs.Prelude.{List}
use Rattle.cs_value.specs.declared.catalog.TableDef.{TableDef}
use Rattle.cs_store.specs.Whole.{AtTable, StoresChange, StoresRow}
use Rattle.cs_leaf.specs.Entries.{Entry}
use Rattle.cs_map_store.specs.declared.checking.Shelf.{Shelf}
use Rattle.cs_map_store.specs.declared.checking.Shelf.TheVariants.{Rows, Pending}

-- a body at its place is what that says: a row, or a pending change
abbrev pub IsGood : Shelf → List TableDef → Entry → Type 0
IsGood Rows tables e = AtTable StoresRow tables e.0 e.1
IsGood Pending tables e = AtTable StoresChange tables e.0 e.1
