-- The laws of pushes.
use Rattle.std.specs.Prelude.{◌≡◌, ◌≢◌, ◌⊎◌, List, IsUtf8}
use Rattle.std.specs.List.{AllByRecursion}
use Rattle.cs_normal.specs.declared.normal.TableChanges.{TableChanges}
use Rattle.cs_pending.specs.View.{View}
use Rattle.cs_pending.specs.position.Shows.{ShowsAt}
use Rattle.cs_pending.specs.declared.position.position.Position.{Position}
use Rattle.cs_exchange.specs.pushing.Pushes.{IsPushFault, IsPushMade}
use Rattle.cs_exchange.specs.declared.pushing.fault.PushFault.{PushFault}
use Rattle.cs_exchange.specs.declared.pushing.fault.PushFault.TheVariants.{Memory, Device}
use Rattle.cs_store.specs.Contents.{Contents}
use Rattle.cs_value.specs.Catalog.{AreTables}
use Rattle.cs_value.specs.declared.catalog.TableDef.{TableDef}

-- pushes that are made of one view have one changeset, and so lead to one position
abbrev pub OnePush : Type 0
OnePush =
    (tables : List TableDef) (position : Position) (before : View) (some other : Contents) (changes others : List TableChanges)
    → AreTables tables
    → IsPushMade tables position before some changes
    → IsPushMade tables position before other others
    → changes ≡ others

-- a fault that says something of the push
abbrev pub IsOfPush : PushFault → Type 0
IsOfPush fault = (fault ≢ Memory) × (fault ≢ Device)

-- a push has one fault
abbrev pub OnePushFault : Type 0
OnePushFault =
    (tables : List TableDef) (position : Position) (view : View) (some other : PushFault)
    → IsOfPush some
    → IsOfPush other
    → IsPushFault some tables position view
    → IsPushFault other tables position view
    → some ≡ other

-- a push that is made has none
abbrev pub NoFaultWhereMade : Type 0
NoFaultWhereMade =
    (tables : List TableDef) (position : Position) (before : View) (new : Contents) (changes : List TableChanges) (fault : PushFault)
    → AreTables tables
    → IsPushMade tables position before new changes
    → IsOfPush fault
    → IsPushFault fault tables position before
    → ⊥

-- a push of a replica that some contents show can be made, or has a fault; the names of the tables are text
abbrev pub MadeOrPushFault : Type 0
MadeOrPushFault =
    (tables : List TableDef) (contents : Contents) (position : Position) (before : View)
    → AreTables tables
    → AllByRecursion (λ table. IsUtf8 table.name) tables
    → ShowsAt tables contents position before
    → ((changes : List TableChanges) × (new : Contents) × IsPushMade tables position before new changes)
    ⊎ ((fault : PushFault) × IsOfPush fault × IsPushFault fault tables position before)
