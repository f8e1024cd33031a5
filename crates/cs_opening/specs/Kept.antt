-- What the values that a store keeps of a replica are read as.
use Rattle.std.specs.Prelude.{◌≡◌, ◌≤◌, ℕ, List, length, IsUtf8}
use Rattle.std.specs.List.{AllByRecursion}
use Rattle.cs_value.specs.Catalog.{AreTables}
use Rattle.cs_value.specs.declared.catalog.TableDef.{TableDef}
use Rattle.cs_store.specs.declared.log.entry.TheConstants.{MAX_CHANGESET}
use Rattle.cs_normal.specs.Normal.{FitsCatalog, IsNormalChangeset, normal_spelling}
use Rattle.cs_normal.specs.declared.normal.TableChanges.{TableChanges}
use Rattle.cs_pending.specs.position.Values.{catalog_bytes, flight_bytes}

-- the bytes are the headers of these tables, which are a catalog
pub record IsCatalogValue (bytes : List ℕ) (tables : List TableDef) : Type 0 where
  pub are : AreTables tables
  pub named : AllByRecursion (λ table. IsUtf8 table.name) tables
  pub spelled : bytes ≡ catalog_bytes tables

-- the bytes are these changes: a normal changeset of the tables that a push can carry
pub record IsPendingValue (tables : List TableDef) (bytes : List ℕ) (changes : List TableChanges) : Type 0 where
  pub fits : FitsCatalog tables changes
  pub normal : IsNormalChangeset changes
  pub size : length (normal_spelling changes) ≤ MAX_CHANGESET
  pub spelled : bytes ≡ normal_spelling changes

-- the bytes are the push with this number, of these changes: a normal changeset of the tables that a push can carry
pub record IsFlightValue (tables : List TableDef) (number : ℕ) (bytes : List ℕ) (changes : List TableChanges) : Type 0 where
  pub fits : FitsCatalog tables changes
  pub normal : IsNormalChangeset changes
  pub size : length (normal_spelling changes) ≤ MAX_CHANGESET
  pub spelled : bytes ≡ flight_bytes number changes
