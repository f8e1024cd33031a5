-- Whether what a store holds is what its places say.
use Rattle.std.specs.Prelude.{◌≡◌, ℕ, Bool, pos, true, false, List, [], ◌∷◌, map, Some, slice_get}
use Rattle.std.specs.FinMap as finite
use Rattle.std.specs.FinMap.{get}
use Rattle.cs_value.specs.declared.catalog.TableDef.{TableDef}
use Rattle.cs_value.specs.declared.value.Value.{Value}
use Rattle.cs_record.specs.Spelling.{row_bytes}
use Rattle.cs_change.specs.Spelling.{FitsChange, change_spelling}
use Rattle.cs_change.specs.declared.change.Change.{Change}
use Rattle.cs_normal.specs.keyed.NormalForm.{change_bytes, has_key}
use Rattle.cs_store.specs.log.State.{IsRowOf}
use Rattle.cs_store.specs.log.Log.{catalog_after}
use Rattle.cs_store.specs.log.Stored.{FitsBody, stored_body}
use Rattle.cs_store.specs.Contents.{Contents, StorePlace, name_text}
use Rattle.cs_store.specs.declared.log.body.Body.{Body}
use Rattle.cs_store.specs.declared.names.MetaName.{MetaName}

-- the bytes spell a row of the table, whose key is spelled by these bytes
abbrev pub StoresRow : TableDef → List ℕ → List ℕ → Type 0
StoresRow table key body = (row : List Value) × IsRowOf table key row × (body ≡ row_bytes row)

-- the bytes spell a change of the table, whose key has no NULL and is spelled by these bytes
abbrev pub StoresChange : TableDef → List ℕ → List ℕ → Type 0
StoresChange table key body =
    (change : Change) × FitsChange table.key_marks change × (body ≡ change_spelling change)
    × (has_key table.key_marks change ≡ true) × (key ≡ change_bytes table.key_marks change)

-- the place is under the number of a table, and there stands what is stored for that table
abbrev pub AtTable : (TableDef → List ℕ → List ℕ → Type 0) → List TableDef → StorePlace → List ℕ → Type 0
AtTable Stores tables place body =
    (number : ℕ) × (table : TableDef) × (place.0 ≡ pos number) × (slice_get tables number ≡ Some table)
    × Stores table place.1 body

-- the bytes are the text of a name of ours
abbrev pub IsName : List ℕ → Type 0
IsName bytes = (name : MetaName) × (bytes ≡ name_text name)

-- ---- the log: each body is one of the tables that those before it leave

-- the bodies are stored for entries, one behind the other, from these tables on. Behind the last one the tables are the present
-- ones
abbrev pub Decodes : List TableDef → List (List ℕ) → List TableDef → Type 0
Decodes tables [] present = present ≡ tables
Decodes tables (bytes ∷ more) present =
    (body : Body) × FitsBody tables body × (bytes ≡ stored_body body) × Decodes (catalog_after tables body) more present

-- whether they decode: if so, the tables behind the last one
abbrev pub AreJudged : List TableDef → List (List ℕ) → Bool → List TableDef → Type 0
AreJudged tables bodies true present = Decodes tables bodies present
AreJudged tables bodies false present = (end : List TableDef) → Decodes tables bodies end → ⊥

-- the bodies of the log's entries, by ascending versions
abbrev pub log_bodies : Contents → List (List ℕ)
log_bodies contents = map (λ entry. entry.1.body) (finite.entries contents.log)

-- the tables behind the last entry of the store's log, which opened with those
abbrev pub IsPresent : List TableDef → Contents → List TableDef → Type 0
IsPresent opening contents present = Decodes opening (log_bodies contents) present

-- ---- all of it

-- the bodies of the log decode. By the tables that they leave, each row is one of a table, at its number and its own key, and so is
-- each pending change. Values have no names but ours
pub record IsWhole (opening : List TableDef) (contents : Contents) : Type 0 where
  pub present : List TableDef
  pub entries : IsPresent opening contents present
  pub rows : (place : StorePlace) (body : List ℕ) → get contents.rows place ≡ Some body → AtTable StoresRow present place body
  pub pending : (place : StorePlace) (body : List ℕ) → get contents.pending place ≡ Some body → AtTable StoresChange present place body
  pub names : (name value : List ℕ) → get contents.meta name ≡ Some value → IsName name
