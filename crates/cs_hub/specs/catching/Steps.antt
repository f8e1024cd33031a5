-- What the code holds on its way: no definition that a public clause cites.
use Rattle.std.specs.Prelude.{◌≤◌, ℕ, List, length, take}
use Rattle.cs_value.specs.declared.catalog.TableDef.{TableDef}
use Rattle.cs_normal.specs.declared.normal.TableChanges.{TableChanges}
use Rattle.cs_hub.specs.catching.Consolidated.{AreOne, AreShort}

-- so many of them are this changeset, and there may be more
pub record IsRunSoFar (tables : List TableDef) (list : List (List TableChanges)) (count : ℕ) (changes : List TableChanges) : Type 0 where
  pub there : count ≤ length list
  pub each : (n : ℕ) → n ≤ count → AreShort tables (take n list)
  pub one : AreOne tables (take count list) changes
