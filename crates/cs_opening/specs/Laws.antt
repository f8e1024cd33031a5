-- The laws of opening.
use Rattle.std.specs.Prelude.{◌≡◌, ◌≢◌, ◌<◌, ◌^◌, ℕ, List, IsUtf8}
use Rattle.std.specs.List.{AllByRecursion}
use Rattle.cs_value.specs.Catalog.{AreTables}
use Rattle.cs_value.specs.declared.catalog.TableDef.{TableDef}
use Rattle.cs_store.specs.Contents.{Contents, nothing}
use Rattle.cs_store.specs.Whole.{IsWhole}
use Rattle.cs_pending.specs.position.Shows.{ShowsSomeAt}
use Rattle.cs_pending.specs.declared.position.position.Position.{Position}
use Rattle.cs_opening.specs.Fresh.{IsFirst}
use Rattle.cs_opening.specs.Opens.{IsOpenFault, IsReplicaAt}
use Rattle.cs_opening.specs.declared.fault.OpenFault.{OpenFault}
use Rattle.cs_opening.specs.declared.fault.OpenFault.TheVariants.{Memory, Device}

-- a fault that says something of the contents
abbrev pub IsOfContents : OpenFault → Type 0
IsOfContents fault = (fault ≢ Memory) × (fault ≢ Device)

-- what was held is opened at one position
abbrev pub OneOpening : Type 0
OneOpening =
    (tables : List TableDef) (id : ℕ) (old new next : Contents) (some other : Position)
    → AreTables tables
    → IsReplicaAt tables id old new some
    → IsReplicaAt tables id old next other
    → some ≡ other

-- it has one fault
abbrev pub OneOpenFault : Type 0
OneOpenFault =
    (tables : List TableDef) (id : ℕ) (old : Contents) (some other : OpenFault)
    → IsOfContents some
    → IsOfContents other
    → IsOpenFault tables id old some
    → IsOpenFault tables id old other
    → some ≡ other

-- where it is opened it has none; the names of tables are text, as those of any catalog are
abbrev pub NoFaultWhereOpened : Type 0
NoFaultWhereOpened =
    (tables : List TableDef) (id : ℕ) (old new : Contents) (position : Position) (fault : OpenFault)
    → AreTables tables
    → AllByRecursion (λ table. IsUtf8 table.name) tables
    → IsReplicaAt tables id old new position
    → IsOfContents fault
    → IsOpenFault tables id old fault
    → ⊥

-- it can't be that there is neither a position at which it is opened, nor a fault
abbrev pub OpensOrFails : Type 0
OpensOrFails =
    (tables : List TableDef) (id : ℕ) (old : Contents)
    → id < 2 ^ 32
    → ((new : Contents) (position : Position) → IsReplicaAt tables id old new position → ⊥)
    → ((fault : OpenFault) → IsOfContents fault → IsOpenFault tables id old fault → ⊥)
    → ⊥

-- a store that shows a replica at a position holds something
abbrev pub NothingShowsNone : Type 0
NothingShowsNone =
    (tables : List TableDef) (position : Position) (contents : Contents)
    → ShowsSomeAt tables position contents
    → contents ≢ nothing

-- all that it holds is what its place says
abbrev pub ShownIsWhole : Type 0
ShownIsWhole =
    (tables : List TableDef) (position : Position) (contents : Contents)
    → AreTables tables
    → ShowsSomeAt tables position contents
    → IsWhole tables contents

-- there are contents at the first position
abbrev pub FirstCanBe : Type 0
FirstCanBe = (tables : List TableDef) (id : ℕ) → (contents : Contents) × IsFirst tables id contents
