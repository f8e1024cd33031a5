-- Whose store it is, by the values `id` and `catalog`.
use Rattle.std.specs.Prelude.{◌≡◌, ℕ, List, length, Option, Some, None}
use Rattle.cs_value.specs.declared.catalog.TableDef.{TableDef}
use Rattle.cs_wire.specs.Numbers.{four_bytes}
use Rattle.cs_pending.specs.position.Values.{catalog_bytes}
use Rattle.cs_opening.specs.Kept.{IsCatalogValue}
use Rattle.cs_opening.specs.declared.owning.Owner.{Owner}
use Rattle.cs_opening.specs.declared.owning.Owner.TheVariants.{This, Other, Unreadable}

-- there is no id, or it is four bytes
abbrev pub IsIdOrNone : Option (List ℕ) → Type 0
IsIdOrNone None = Unit {0}
IsIdOrNone (Some bytes) = length bytes ≡ 4

-- there are headers of tables, and a catalog of these
abbrev pub TellsTables : Option (List ℕ) → Type 0
TellsTables None = ⊥
TellsTables (Some bytes) = (tables : List TableDef) × IsCatalogValue bytes tables

-- both are those of the replica with this id and these tables
abbrev pub IsOfReplica : List TableDef → ℕ → Option (List ℕ) → Option (List ℕ) → Type 0
IsOfReplica tables id own headers = (own ≡ Some (four_bytes id)) × (headers ≡ Some (catalog_bytes tables))

-- what is told of the two values
abbrev pub IsOwner : List TableDef → ℕ → Option (List ℕ) → Option (List ℕ) → Owner → Type 0
IsOwner tables id own headers This = IsOfReplica tables id own headers
IsOwner tables id own headers Other =
    IsIdOrNone own × TellsTables headers × (IsOfReplica tables id own headers → ⊥)
IsOwner tables id own headers Unreadable = IsIdOrNone own × TellsTables headers → ⊥
