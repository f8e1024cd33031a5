-- The statements of a store in SQLite, and what its tables hold.
use Rattle.std.specs.Prelude.{◌≡◌, ⊤, Bool, false, [], ◌∷◌, codes, List, ℕ, ℤ, pos, negsuc, ◌-◌, ◌^◌, map}
use Rattle.std.specs.List.{AllByRecursion}
use Rattle.std.specs.FinMap.{from_entries}
use Rattle.sqlite.specs.Order.{Row, column}
use Rattle.sqlite_value.specs.declared.value.Value.TheVariants.{Null, Int, Text as Words, Blob as Bytes}
use Rattle.sqlite_value.specs.Order.{bytes, value_cmp}
use Rattle.std.specs.declared.cmp.Ordering.{Ordering}
use Rattle.std.specs.Ordering.{is_eq, eq_by_cmp, int_cmp}
use Rattle.sqlite.specs.Tree.{Trees, rowid}
use Rattle.sqlite.specs.Effect.{Database, IsDatabase}
use Rattle.sqlite.specs.Edit.{id_in}
use Rattle.cs_order.specs.Order.{by_bytes}
use Rattle.cs_store.specs.Contents.{StorePlace, LogItem, Contents, place_cmp}
use Rattle.cs_sql.specs.schema.Schemas.{store_over, store_schema}
use Rattle.cs_sql.specs.declared.parts.Part.{Part}
use Rattle.cs_sql.specs.declared.parts.Part.TheVariants as part
use Rattle.cs_sql.specs.declared.statements.spaces.Space.{Space}
use Rattle.cs_sql.specs.declared.statements.spaces.Space.TheVariants.{Rows, Pending}

-- ---- the statements

abbrev pub remove_text : Space → List ℕ
remove_text Rows = codes "DELETE FROM rows WHERE tab = ?1 AND key = ?2"
remove_text Pending = codes "DELETE FROM pending WHERE tab = ?1 AND key = ?2"

abbrev pub insert_text : Space → List ℕ
insert_text Rows = codes "INSERT INTO rows VALUES (?1, ?2, ?3)"
insert_text Pending = codes "INSERT INTO pending VALUES (?1, ?2, ?3)"

abbrev pub select_text : Space → List ℕ
select_text Rows = codes "SELECT body FROM rows WHERE tab = ?1 AND key = ?2"
select_text Pending = codes "SELECT body FROM pending WHERE tab = ?1 AND key = ?2"

abbrev pub list_text : Space → List ℕ
list_text Rows = codes "SELECT key, body FROM rows WHERE tab = ?1 ORDER BY key"
list_text Pending = codes "SELECT key, body FROM pending WHERE tab = ?1 ORDER BY key"

abbrev pub remove_meta_text : List ℕ
remove_meta_text = codes "DELETE FROM meta WHERE name = ?1"

abbrev pub insert_meta_text : List ℕ
insert_meta_text = codes "INSERT INTO meta VALUES (?1, ?2)"

abbrev pub select_meta_text : List ℕ
select_meta_text = codes "SELECT body FROM meta WHERE name = ?1"

abbrev pub insert_log_text : List ℕ
insert_log_text = codes "INSERT INTO log VALUES (?1, ?2, ?3, ?4)"

abbrev pub select_log_text : List ℕ
select_log_text = codes "SELECT origin, number, body FROM log WHERE version = ?1"

abbrev pub list_log_text : List ℕ
list_log_text = codes "SELECT origin, number, body, version FROM log WHERE version >= ?1 AND version < ?2 ORDER BY version"

-- the query that shows all that a table holds, the log by its versions
abbrev pub all_text : Part → List ℕ
all_text part.Rows = codes "SELECT tab, key, body FROM rows"
all_text part.Pending = codes "SELECT tab, key, body FROM pending"
all_text part.Meta = codes "SELECT name FROM meta"
all_text part.Log = codes "SELECT body FROM log ORDER BY version"

-- the query that shows its rowids
abbrev pub ids_text : Part → List ℕ
ids_text part.Rows = codes "SELECT rowid FROM rows ORDER BY rowid"
ids_text part.Pending = codes "SELECT rowid FROM pending ORDER BY rowid"
ids_text part.Meta = codes "SELECT rowid FROM meta ORDER BY rowid"
ids_text part.Log = codes "SELECT rowid FROM log ORDER BY rowid"

-- ---- what they hold

-- a row of `rows` as a place and a body
abbrev pub row_pair : Row → StorePlace × List ℕ
row_pair r = ((id_in (column r 1), bytes (column r 2)), bytes (column r 3))

abbrev pub value_pair : Row → List ℕ × List ℕ
value_pair r = (bytes (column r 1), bytes (column r 2))

-- the number with the same 64 bits that has no sign
abbrev pub number_of : ℤ → ℕ
number_of (pos n) = n
number_of (negsuc n) = 2 ^ 64 - 1 - n

-- a row of `log` as a version and an entry
abbrev pub entry_pair : Row → ℤ × LogItem
entry_pair r = (id_in (rowid r), record { origin = id_in (column r 2); number = number_of (id_in (column r 3)); body = bytes (column r 4) })

abbrev pub contents_in : Trees → Contents
contents_in db = record {
  rows = from_entries (map row_pair (db 0));
  pending = from_entries (map row_pair (db 5));
  meta = from_entries (map value_pair (db 2));
  log = from_entries (map entry_pair (db 4));
}

-- a row as an INSERT stores it
abbrev pub IsRow : Row → Type 0
IsRow r = (id : ℤ) × (table : ℤ) × (key : List ℕ) × (body : List ℕ) × (r ≡ Int id ∷ Int table ∷ Bytes key ∷ Bytes body ∷ [])

abbrev pub IsMeta : Row → Type 0
IsMeta r = (id : ℤ) × (name : List ℕ) × (body : List ℕ) × (r ≡ Int id ∷ Words name ∷ Bytes body ∷ [])

-- the rowid of a row of `log` is its version
abbrev pub IsLog : Row → Type 0
IsLog r = (id : ℤ) × (origin : ℤ) × (number : ℤ) × (body : List ℕ) × (r ≡ Int id ∷ Null ∷ Int origin ∷ Int number ∷ Bytes body ∷ [])

-- no two of them tie
abbrev pub Apart : {A : Type 0} → (A → A → Bool) → List A → Type 0
Apart tie [] = ⊤
Apart tie (x ∷ xs) = AllByRecursion (λ y. tie x y ≡ false) xs × Apart tie xs

abbrev pub same_id : Row → Row → Bool
same_id a b = is_eq (value_cmp (rowid a) (rowid b))

abbrev pub same_key : {K X : Type 0} → (K → K → Ordering) → (Row → K × X) → Row → Row → Bool
same_key R entry a b = eq_by_cmp R (entry a).0 (entry b).0

-- the rows of a table are a map, and no two have one rowid
pub record IsMapped {K X : Type 0} (R : K → K → Ordering) (entry : Row → K × X) (Is : Row → Type 0) (es : List Row) : Type 0 where
  pub typed : AllByRecursion Is es
  pub ids_apart : Apart same_id es
  pub keys_apart : Apart (same_key R entry) es

-- the database has the store's tables and nothing else
pub record IsKept (db : Database) : Type 0 where
  pub schema : db.schema ≡ store_schema
  pub rows : IsMapped place_cmp row_pair IsRow (db.trees 0)
  pub meta : IsMapped (by_bytes) value_pair IsMeta (db.trees 2)
  pub log : IsMapped int_cmp entry_pair IsLog (db.trees 4)
  pub pending : IsMapped place_cmp row_pair IsRow (db.trees 5)

-- the trees are those of a store: they list its tables and nothing else, and each of these is a map
pub record AreKept (trees : Trees) : Type 0 where
  pub sound : IsDatabase (store_over trees)
  pub kept : IsKept (store_over trees)
