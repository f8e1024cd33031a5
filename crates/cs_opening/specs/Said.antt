-- Where the values of a store say that a replica stands.
use Rattle.std.specs.Prelude.{◌≡◌, ◌≤◌, ℕ, List, Option, Some, None}
use Rattle.cs_value.specs.declared.catalog.TableDef.{TableDef}
use Rattle.cs_normal.specs.declared.normal.TableChanges.{TableChanges}
use Rattle.cs_store.specs.Contents.{Contents, meta_value}
use Rattle.cs_store.specs.declared.names.MetaName.TheVariants.{Version, Number, Flight}
use Rattle.cs_wire.specs.Numbers.{eight_bytes}
use Rattle.cs_pending.specs.declared.position.position.Position.{Position}
use Rattle.cs_pending.specs.declared.position.position.TheConstants.{LAST_NUMBER}
use Rattle.cs_opening.specs.Kept.{IsFlightValue}

-- the value is the push with this number, of these changes; or there is none, and none is under way
abbrev pub IsFlightOf : List TableDef → ℕ → Option (List ℕ) → Option (List TableChanges) → Type 0
IsFlightOf tables number None None = Unit {0}
IsFlightOf tables number None (Some changes) = ⊥
IsFlightOf tables number (Some bytes) None = ⊥
IsFlightOf tables number (Some bytes) (Some changes) = IsFlightValue tables number bytes changes

-- the three values are those of a position with this id, with nothing counted as pending
pub record SayPosition (tables : List TableDef) (id : ℕ) (version number flight : Option (List ℕ)) (position : Position) : Type 0 where
  pub of : position.id ≡ id
  pub version_is : version ≡ Some (eight_bytes position.version)
  pub number_is : number ≡ Some (eight_bytes position.number)
  pub flight_is : IsFlightOf tables position.number flight position.flight
  pub uncounted : position.pending ≡ 0
  pub numbered : position.number ≤ LAST_NUMBER

-- the same of the values of a store
abbrev pub SaysPosition : List TableDef → ℕ → Contents → Position → Type 0
SaysPosition tables id contents position =
    SayPosition tables id (meta_value contents Version) (meta_value contents Number) (meta_value contents Flight) position
