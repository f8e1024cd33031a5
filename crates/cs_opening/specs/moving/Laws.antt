-- The laws of opening any store.
use Rattle.std.specs.Prelude.{◌≡◌, ◌<◌, ◌^◌, ℕ, List, IsUtf8}
use Rattle.std.specs.List.{AllByRecursion}
use Rattle.cs_value.specs.Catalog.{AreTables}
use Rattle.cs_value.specs.declared.catalog.TableDef.{TableDef}
use Rattle.cs_normal.specs.declared.normal.TableChanges.{TableChanges}
use Rattle.cs_store.specs.Contents.{Contents}
use Rattle.cs_pending.specs.declared.position.position.Position.{Position}
use Rattle.cs_opening.specs.Laws.{IsOfContents}
use Rattle.cs_opening.specs.declared.fault.OpenFault.{OpenFault}
use Rattle.cs_opening.specs.moving.Moved.{IsStoreFault, IsStoreOpened, KeepsValue}

-- contents keep one value
abbrev pub OneValue : Type 0
OneValue =
    (tables : List TableDef) (contents : Contents) (some other : List TableChanges)
    → AreTables tables
    → KeepsValue tables contents some
    → KeepsValue tables contents other
    → some ≡ other

-- what was held is opened at one position
abbrev pub OneStoreOpening : Type 0
OneStoreOpening =
    (tables : List TableDef) (id : ℕ) (old new next : Contents) (some other : Position)
    → AreTables tables
    → IsStoreOpened tables id old new some
    → IsStoreOpened tables id old next other
    → some ≡ other

-- it has one fault
abbrev pub OneStoreFault : Type 0
OneStoreFault =
    (tables : List TableDef) (id : ℕ) (old : Contents) (some other : OpenFault)
    → IsOfContents some
    → IsOfContents other
    → IsStoreFault tables id old some
    → IsStoreFault tables id old other
    → some ≡ other

-- where it is opened it has none; the names of tables are text, as those of any catalog are
abbrev pub NoStoreFaultWhereOpened : Type 0
NoStoreFaultWhereOpened =
    (tables : List TableDef) (id : ℕ) (old new : Contents) (position : Position) (fault : OpenFault)
    → AreTables tables
    → AllByRecursion (λ table. IsUtf8 table.name) tables
    → IsStoreOpened tables id old new position
    → IsOfContents fault
    → IsStoreFault tables id old fault
    → ⊥

-- it can't be that there is neither a position at which it is opened, nor a fault
abbrev pub StoreOpensOrFails : Type 0
StoreOpensOrFails =
    (tables : List TableDef) (id : ℕ) (old : Contents)
    → id < 2 ^ 32
    → ((new : Contents) (position : Position) → IsStoreOpened tables id old new position → ⊥)
    → ((fault : OpenFault) → IsOfContents fault → IsStoreFault tables id old fault → ⊥)
    → ⊥
