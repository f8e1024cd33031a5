-- The laws of opening a store by the tables that it keeps.
use Rattle.std.specs.Prelude.{◌≡◌, ◌<◌, ◌^◌, ℕ, List, IsUtf8}
use Rattle.std.specs.List.{AllByRecursion}
use Rattle.cs_value.specs.Catalog.{AreTables}
use Rattle.cs_value.specs.declared.catalog.TableDef.{TableDef}
use Rattle.cs_store.specs.Contents.{Contents, nothing}
use Rattle.cs_pending.specs.declared.position.position.Position.{Position}
use Rattle.cs_opening.specs.Laws.{IsOfContents}
use Rattle.cs_opening.specs.Wider.{AreWider, IsOpenedBy, IsRefused, OpensBy}
use Rattle.cs_opening.specs.declared.fault.OpenFault.{OpenFault}

-- tables are as wide as themselves
abbrev pub WiderAgain : Type 0
WiderAgain = (tables : List TableDef) → AreWider tables tables

-- a store is opened by one list of tables
abbrev pub OneOpensBy : Type 0
OneOpensBy =
    (handed some other : List TableDef) (contents : Contents)
    → OpensBy handed contents some
    → OpensBy handed contents other
    → some ≡ other

-- it can't be that there is none
abbrev pub SomeOpensBy : Type 0
SomeOpensBy =
    (handed : List TableDef) (contents : Contents)
    → ((tables : List TableDef) → OpensBy handed contents tables → ⊥)
    → ⊥

-- a store that holds nothing is opened by the handed ones
abbrev pub NothingByHanded : Type 0
NothingByHanded = (handed tables : List TableDef) → OpensBy handed nothing tables → tables ≡ handed

-- what was held is opened at one position, by one list of tables
abbrev pub OneOpened : Type 0
OneOpened =
    (handed some others : List TableDef) (id : ℕ) (old new next : Contents) (position other : Position)
    → AreTables handed
    → IsOpenedBy handed id old new some position
    → IsOpenedBy handed id old next others other
    → (some ≡ others) × (position ≡ other)

-- it has one fault
abbrev pub OneRefused : Type 0
OneRefused =
    (handed : List TableDef) (id : ℕ) (old : Contents) (some other : OpenFault)
    → IsOfContents some
    → IsOfContents other
    → IsRefused handed id old some
    → IsRefused handed id old other
    → some ≡ other

-- where it is opened it has none; the names of tables are text, as those of any catalog are
abbrev pub NoneRefusedWhereOpened : Type 0
NoneRefusedWhereOpened =
    (handed tables : List TableDef) (id : ℕ) (old new : Contents) (position : Position) (fault : OpenFault)
    → AreTables handed
    → AllByRecursion (λ table. IsUtf8 table.name) handed
    → IsOpenedBy handed id old new tables position
    → IsOfContents fault
    → IsRefused handed id old fault
    → ⊥

-- it can't be that there is neither a position at which it is opened, nor a fault
abbrev pub OpenedOrRefused : Type 0
OpenedOrRefused =
    (handed : List TableDef) (id : ℕ) (old : Contents)
    → id < 2 ^ 32
    → ((tables : List TableDef) (new : Contents) (position : Position) → IsOpenedBy handed id old new tables position → ⊥)
    → ((fault : OpenFault) → IsOfContents fault → IsRefused handed id old fault → ⊥)
    → ⊥
