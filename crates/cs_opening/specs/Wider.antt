-- A replica's tables may have got more columns since they were handed to it: by which a store is opened.
use Rattle.std.specs.Prelude.{◌≡◌, ◌⊎◌, ℕ, false, List, [], ◌∷◌, ◌++◌, replicate, Some}
use Rattle.cs_value.specs.declared.catalog.TableDef.{TableDef}
use Rattle.cs_store.specs.Contents.{Contents, meta_value}
use Rattle.cs_store.specs.declared.names.MetaName.TheVariants as named
use Rattle.cs_pending.specs.declared.position.position.Position.{Position}
use Rattle.cs_opening.specs.Kept.{IsCatalogValue}
use Rattle.cs_opening.specs.moving.Moved.{IsSameOrOpened, IsStoreFault, IsStoreOpened}
use Rattle.cs_opening.specs.declared.fault.OpenFault.{OpenFault}
use Rattle.cs_opening.specs.declared.fault.OpenFault.TheVariants.{Memory, Damaged, Device, Mismatch}

-- ---- wider tables

-- the table has the handed columns, and behind them any number of others, none of the key
abbrev pub IsWiderTable : TableDef → TableDef → Type 0
IsWiderTable handed stored =
    (stored.name ≡ handed.name) × ((count : ℕ) × (stored.key_marks ≡ handed.key_marks ++ replicate count false))

-- each table has, in the same order
abbrev pub AreWider : List TableDef → List TableDef → Type 0
AreWider [] [] = Unit {0}
AreWider [] (stored ∷ others) = ⊥
AreWider (handed ∷ more) [] = ⊥
AreWider (handed ∷ more) (stored ∷ others) = IsWiderTable handed stored × AreWider more others

-- ---- by which tables a store is opened

-- the store keeps these tables, and they are the handed ones or wider
pub record KeepsWider (handed : List TableDef) (contents : Contents) (stored : List TableDef) : Type 0 where
  pub bytes : List ℕ
  pub there : meta_value contents named.Catalog ≡ Some bytes
  pub value : IsCatalogValue bytes stored
  pub wider : AreWider handed stored

-- by those that it keeps, where these are the handed ones or wider; otherwise by the handed ones
abbrev pub OpensBy : List TableDef → Contents → List TableDef → Type 0
OpensBy handed contents tables =
    KeepsWider handed contents tables
    ⊎ (((stored : List TableDef) → KeepsWider handed contents stored → ⊥) × (tables ≡ handed))

-- ---- what is opened, and what is refused

-- it is opened at the position, by these tables
abbrev pub IsOpenedBy : List TableDef → ℕ → Contents → Contents → List TableDef → Position → Type 0
IsOpenedBy handed id old new tables position = OpensBy handed old tables × IsStoreOpened tables id old new position

-- what may have been written
abbrev pub MayBeOpened : List TableDef → ℕ → Contents → Contents → Type 0
MayBeOpened handed id old new = (tables : List TableDef) × OpensBy handed old tables × IsSameOrOpened tables id old new

-- what is told of contents that can't be opened, by the tables by which they would be
abbrev pub IsRefused : List TableDef → ℕ → Contents → OpenFault → Type 0
IsRefused handed id old Memory = Unit {0}
IsRefused handed id old Damaged = (tables : List TableDef) × OpensBy handed old tables × IsStoreFault tables id old Damaged
IsRefused handed id old Device = Unit {0}
IsRefused handed id old Mismatch = (tables : List TableDef) × OpensBy handed old tables × IsStoreFault tables id old Mismatch
