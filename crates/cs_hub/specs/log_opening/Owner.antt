-- Whether a store is a hub's, by the values `id` and `catalog` (profile of this project).
use Rattle.std.specs.Prelude.{◌≡◌, ℕ, List, Option, Some, None}
use Rattle.cs_value.specs.declared.catalog.TableDef.{TableDef}
use Rattle.cs_opening.specs.Owner.{IsIdOrNone, TellsTables}
use Rattle.cs_opening.specs.declared.owning.Owner.{Owner}
use Rattle.cs_opening.specs.declared.owning.Owner.TheVariants.{This, Other, Unreadable}
use Rattle.cs_pending.specs.position.Values.{catalog_bytes}

-- there is no id, and the tables are these: it is a hub's that opened with them
abbrev pub IsOfHub : List TableDef → Option (List ℕ) → Option (List ℕ) → Type 0
IsOfHub opening own headers = (own ≡ None) × (headers ≡ Some (catalog_bytes opening))

-- what is told of the two values
abbrev pub IsHubOwner : List TableDef → Option (List ℕ) → Option (List ℕ) → Owner → Type 0
IsHubOwner opening own headers This = IsOfHub opening own headers
IsHubOwner opening own headers Other =
    IsIdOrNone own × TellsTables headers × (IsOfHub opening own headers → ⊥)
IsHubOwner opening own headers Unreadable = IsIdOrNone own × TellsTables headers → ⊥
