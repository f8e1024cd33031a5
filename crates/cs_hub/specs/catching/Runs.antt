-- Changesets that are taken one by one, as long as they are together short enough (profile of this project).
use Rattle.std.specs.Prelude.{◌+◌, ◌<◌, ◌≤◌, ℕ, List, length, take}
use Rattle.cs_value.specs.declared.catalog.TableDef.{TableDef}
use Rattle.cs_normal.specs.declared.normal.TableChanges.{TableChanges}
use Rattle.cs_hub.specs.catching.Consolidated.{AreOne, AreShort}

-- taken one by one: so many first changesets are together short enough, and so are fewer of them. With the next one, if there is one,
-- they aren't
pub record IsShortRun (tables : List TableDef) (list : List (List TableChanges)) (count : ℕ) : Type 0 where
  pub there : count ≤ length list
  pub each : (n : ℕ) → n ≤ count → AreShort tables (take n list)
  pub ends : count < length list → AreShort tables (take (count + 1) list) → ⊥

-- so many of them are this changeset, as far as they go
pub record IsRunOf (tables : List TableDef) (list : List (List TableChanges)) (count : ℕ) (changes : List TableChanges) : Type 0 where
  pub run : IsShortRun tables list count
  pub one : AreOne tables (take count list) changes
