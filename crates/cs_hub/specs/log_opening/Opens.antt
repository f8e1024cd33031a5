-- Opening a hub over any store (profile of this project).
use Rattle.std.specs.Prelude.{◌≡◌, ◌≢◌, ◌⊎◌, ℕ, List, []}
use Rattle.std.specs.FinMap.{empty}
use Rattle.cs_value.specs.declared.catalog.TableDef.{TableDef}
use Rattle.cs_store.specs.Contents.{Contents, HasEachEntry, log_count, meta_value, nothing}
use Rattle.cs_store.specs.Whole.{IsWhole}
use Rattle.cs_store.specs.declared.names.MetaName.TheVariants as named
use Rattle.cs_hub.specs.log_store.Shows.{HasHubValues, ShowsLog}
use Rattle.cs_opening.specs.declared.fault.OpenFault.{OpenFault}
use Rattle.cs_opening.specs.declared.fault.OpenFault.TheVariants.{Memory, Damaged, Device, Mismatch}
use Rattle.cs_opening.specs.declared.owning.Owner.{Owner}
use Rattle.cs_opening.specs.declared.owning.Owner.TheVariants.{This, Other, Unreadable}
use Rattle.cs_hub.specs.log_opening.Owner.{IsHubOwner}

-- what is looked at when a hub is opened: all that the store holds is what its places say, and its values are a hub's. Nothing is
-- pending, and an entry stands at each version below their count. What the entries make of the rows isn't looked at
pub record IsHubStore (opening : List TableDef) (contents : Contents) : Type 0 where
  pub whole : IsWhole opening contents
  pub values : HasHubValues opening contents
  pub pending : contents.pending ≡ empty
  pub entries : HasEachEntry contents

-- ---- what is opened

-- where there was nothing, there is a hub without entries; anything else is as it was, and a hub's; the log has so many entries
abbrev pub IsHubAt : List TableDef → Contents → Contents → ℕ → Type 0
IsHubAt opening old new count =
    ((old ≡ nothing) × ShowsLog opening new [] × (count ≡ 0))
    ⊎ ((old ≢ nothing) × (new ≡ old) × IsHubStore opening old × (count ≡ log_count old))

-- contents are as they were, or there was nothing and this is a hub without entries
abbrev pub IsSameOrFirst : List TableDef → Contents → Contents → Type 0
IsSameOrFirst opening old new = (new ≡ old) ⊎ ((old ≡ nothing) × ShowsLog opening new [])

-- ---- what is refused

-- whose contents they are, by the values `id` and `catalog`
abbrev pub AreOf : List TableDef → Contents → Owner → Type 0
AreOf opening contents owner = IsHubOwner opening (meta_value contents named.Id) (meta_value contents named.Catalog) owner

-- what is told of contents that can't be opened. There is something, and Mismatch says that it is a replica's, or a hub's with
-- other tables; Damaged, that whose it is can't be read, or that it is this hub's and isn't what a hub's store is
abbrev pub IsHubFault : List TableDef → Contents → OpenFault → Type 0
IsHubFault opening contents Memory = Unit {0}
IsHubFault opening contents Damaged =
    (contents ≢ nothing)
    × (AreOf opening contents Unreadable ⊎ (AreOf opening contents This × (IsHubStore opening contents → ⊥)))
IsHubFault opening contents Device = Unit {0}
IsHubFault opening contents Mismatch = (contents ≢ nothing) × AreOf opening contents Other
