-- Places that are to be looked up.
use Rattle.std.specs.Prelude.{◌≡◌, ℕ, ◌<◌, ◌^◌, List, length, slice_index_or}
use Rattle.cs_value.specs.declared.catalog.TableDef.{TableDef}
use Rattle.cs_apply.specs.Found.{place_bytes}
use Rattle.cs_apply.specs.declared.sought.SoughtPlace.{SoughtPlace}

-- it is at a table of the catalog, whose number fits its four bytes
pub record IsOfTable (catalog : List TableDef) (sought : SoughtPlace) : Type 0 where
  pub table : TableDef
  pub is : table ≡ slice_index_or catalog sought.table table
  pub within : sought.table < length catalog
  pub narrow : sought.table < 2 ^ 32
  pub wide : sought.columns ≡ length table.key_marks

-- it is this place, at a table of the catalog
abbrev pub IsSought : List TableDef → List ℕ → SoughtPlace → Type 0
IsSought catalog place sought = (place_bytes sought.table sought.key.now ≡ place) × IsOfTable catalog sought
