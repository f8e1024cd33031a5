-- Opening a replica over any store.
use Rattle.std.specs.Prelude.{◌≡◌, ◌≢◌, ◌⊎◌, ℕ, List}
use Rattle.cs_value.specs.declared.catalog.TableDef.{TableDef}
use Rattle.cs_store.specs.Contents.{Contents, meta_value, nothing}
use Rattle.cs_store.specs.declared.names.MetaName.TheVariants as named
use Rattle.cs_pending.specs.position.Laws.{FitsPosition}
use Rattle.cs_pending.specs.position.Shows.{ShowsSomeAt}
use Rattle.cs_pending.specs.declared.position.position.Position.{Position}
use Rattle.cs_opening.specs.Fresh.{IsFirst, first_position}
use Rattle.cs_opening.specs.Owner.{IsOwner}
use Rattle.cs_opening.specs.declared.fault.OpenFault.{OpenFault}
use Rattle.cs_opening.specs.declared.fault.OpenFault.TheVariants.{Memory, Damaged, Device, Mismatch}
use Rattle.cs_opening.specs.declared.owning.Owner.{Owner}
use Rattle.cs_opening.specs.declared.owning.Owner.TheVariants.{This, Other, Unreadable}

-- ---- what is opened

-- contents show the replica with this id at a position
pub record StandsAt (tables : List TableDef) (id : ℕ) (contents : Contents) (position : Position) : Type 0 where
  pub of : position.id ≡ id
  pub fits : FitsPosition position
  pub shows : ShowsSomeAt tables position contents

-- where there was nothing, there is the first position; anything else is as it was, and shows the replica at the position
abbrev pub IsReplicaAt : List TableDef → ℕ → Contents → Contents → Position → Type 0
IsReplicaAt tables id old new position =
    ((old ≡ nothing) × (position ≡ first_position id) × IsFirst tables id new)
    ⊎ ((old ≢ nothing) × (new ≡ old) × StandsAt tables id new position)

-- ---- what is refused

-- contents show the replica with this id at no position
abbrev pub StandsNowhere : List TableDef → ℕ → Contents → Type 0
StandsNowhere tables id contents =
    (position : Position) → position.id ≡ id → ShowsSomeAt tables position contents → ⊥

-- whose contents they are, by the values `id` and `catalog`
abbrev pub AreOf : List TableDef → ℕ → Contents → Owner → Type 0
AreOf tables id contents owner =
    IsOwner tables id (meta_value contents named.Id) (meta_value contents named.Catalog) owner

-- what is told of contents that can't be opened. There is something, and Mismatch says that it is another's or no replica's;
-- Damaged, that whose it is can't be read, or that it is this replica's and shows it at no position
abbrev pub IsOpenFault : List TableDef → ℕ → Contents → OpenFault → Type 0
IsOpenFault tables id contents Memory = Unit {0}
IsOpenFault tables id contents Damaged =
    (contents ≢ nothing)
    × (AreOf tables id contents Unreadable ⊎ (AreOf tables id contents This × StandsNowhere tables id contents))
IsOpenFault tables id contents Device = Unit {0}
IsOpenFault tables id contents Mismatch = (contents ≢ nothing) × AreOf tables id contents Other
