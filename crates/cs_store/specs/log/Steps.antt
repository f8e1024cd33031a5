-- What the code holds on the way to whether bytes are a stored body: no definition that a public clause cites.
use Rattle.std.specs.Prelude.{◌≡◌, ◌≢◌, ℕ, ◌<◌, ◌≤◌, Bool, true, List, [], ◌∷◌, ◌++◌, length, map, Result, Ok, Err}
use Rattle.std.specs.List.{flat_map}
use Rattle.std.specs.declared.cmp.Ordering.TheVariants.{Less}
use Rattle.cs_value.specs.Catalog.{max_columns}
use Rattle.cs_value.specs.declared.catalog.TableDef.{TableDef}
use Rattle.cs_change.specs.declared.change.Change.{Change}
use Rattle.cs_change.specs.Spelling.{FitsChange, change_spelling, flag_byte}
use Rattle.cs_record.specs.Reading.{StandsAt}
use Rattle.cs_order.specs.Order.{by_bytes}
use Rattle.cs_normal.specs.keyed.Changes.{AreNormal, Changes, IsEntry}
use Rattle.cs_normal.specs.keyed.NormalForm.{change_bytes, has_key}
use Rattle.cs_normal.specs.Normal.{FitsCatalog, IsNormalTable, normal_spelling, table_spelling}
use Rattle.cs_normal.specs.declared.normal.TableChanges.{TableChanges}
use Rattle.cs_store.specs.log.Entry.{MayWiden, widen_spelling}
use Rattle.cs_store.specs.log.Stored.{AreChangesOf, FitsBody, stored_body}
use Rattle.cs_store.specs.declared.log.body.Body.{Body}
use Rattle.cs_store.specs.declared.log.body.Body.TheVariants.{Changes as WithChanges, Widen}
use Rattle.cs_store.specs.declared.log.fault.BodyFault.{BodyFault}
use Rattle.cs_store.specs.declared.log.fault.BodyFault.TheVariants.{Memory, NoBody}

-- how the changes of a table are written
abbrev pub changes_bytes : Changes → List ℕ
changes_bytes changes = flat_map (λ keyed. change_spelling keyed.1) changes

-- the change has a key without NULL, of these bytes, above those
pub record HasKeyAbove (marks : List Bool) (last key : List ℕ) (change : Change) : Type 0 where
  pub set : has_key marks change ≡ true
  pub bytes : key ≡ change_bytes marks change
  pub above : by_bytes last key ≡ Less

-- so many bytes at the front are this change of a table
pub record IsChangeAt (marks : List Bool) (bytes : List ℕ) (change : Change) (len : ℕ) : Type 0 where
  pub fits : FitsChange marks change
  pub stands : StandsAt bytes (change_spelling change) len
  pub some : 0 < len

-- so many bytes at the front are a change of a table in normal form, with this key above that one
pub record IsNextChange (marks : List Bool) (last key bytes : List ℕ) (len : ℕ) : Type 0 where
  pub change : Change
  pub entry : IsEntry marks (key, change)
  pub above : by_bytes last key ≡ Less
  pub stands : StandsAt bytes (change_spelling change) len
  pub some : 0 < len

-- some changes of a table in normal form stand in front of the rest
pub record AreNextChanges (marks : List Bool) (bytes rest : List ℕ) : Type 0 where
  pub changes : Changes
  pub normal : AreNormal marks changes
  pub some : changes ≢ []
  pub spelled : bytes ≡ changes_bytes changes ++ rest

-- the name and the column bytes are those of a table, behind which these stand
pub record IsTableBefore (tables more : List TableDef) (table : TableDef) (name marks : List ℕ) : Type 0 where
  pub before : List TableDef
  pub parts : tables ≡ before ++ table ∷ more
  pub named : table.name ≡ name
  pub marked : map flag_byte table.key_marks ≡ marks

-- a table in normal form stands in front of the rest: one of these tables, behind which others are left
pub record IsNextTable (tables more : List TableDef) (bytes rest : List ℕ) : Type 0 where
  pub before : List TableDef
  pub changes : TableChanges
  pub parts : tables ≡ before ++ more
  pub of_catalog : FitsCatalog before (changes ∷ [])
  pub normal : IsNormalTable changes
  pub spelled : bytes ≡ table_spelling changes ++ rest

-- the bytes spell a changeset of these tables in normal form
abbrev pub SpellsChanges : List TableDef → List ℕ → Type 0
SpellsChanges tables bytes =
    (changes : List TableChanges) × AreChangesOf tables changes × (bytes ≡ normal_spelling changes)

-- and are those that a body with it is stored as
abbrev pub StoresChanges : List TableDef → List ℕ → Type 0
StoresChanges tables bytes =
    (changes : List TableChanges) × FitsBody tables (WithChanges changes) × (bytes ≡ stored_body (WithChanges changes))

-- the table has the name and may be widened to so many columns
abbrev pub WidensTable : List ℕ → ℕ → TableDef → Type 0
WidensTable name width table =
    (table.name ≡ name) × (length table.key_marks < width) × (width ≤ max_columns)

-- what reading a table and its columns gives
abbrev pub ReadsWiden : List TableDef → List ℕ → Result Body BodyFault → Type 0
ReadsWiden tables bytes (Ok body) =
    (table : List ℕ) × (width : ℕ) × (body ≡ Widen table width) × MayWiden tables body × (bytes ≡ widen_spelling table width)
ReadsWiden tables bytes (Err Memory) = Unit {0}
ReadsWiden tables bytes (Err NoBody) =
    (table : List ℕ) (width : ℕ) → MayWiden tables (Widen table width) → bytes ≡ widen_spelling table width → ⊥
