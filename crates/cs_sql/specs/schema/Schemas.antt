-- The tables of a store in SQLite, and the schemas that a file of one has.
use Rattle.std.specs.Prelude.{◌≡◌, Bool, true, false, [], ◌∷◌, None, Some, codes, List, ℕ}
use Rattle.sqlite.specs.Collation.TheVariants.{Binary}
use Rattle.sqlite_value.specs.declared.value.Value.TheVariants.{Null}
use Rattle.sqlite_value.specs.Keys.{plain}
use Rattle.sqlite.specs.Change.{created}
use Rattle.sqlite.specs.Effect.{Database}
use Rattle.sqlite.specs.Table.{Table}
use Rattle.sqlite.specs.Schema.{Schema}
use Rattle.sqlite.specs.Kind.{Kind}
use Rattle.sqlite.specs.Tree.{Trees}
use Rattle.sqlite_schema.specs.declared.schema.Column.{Column}
use Rattle.sqlite_schema.specs.declared.schema.Index.{Index}
use Rattle.sqlite.specs.Kind.TheVariants.{Integer, Text, Blob}

-- a column of a STRICT table
abbrev pub column_as : List ℕ → Kind → Bool → Column
column_as name kind not_null = record { name = name; kind = kind; is_strict = true; not_null = not_null; default = Null; collation = Binary }

-- a table with bytes at places: the number of a table, the bytes of a key, and the bytes of a body
abbrev pub placed_table : List ℕ → Table
placed_table name = record {
  name = name;
  tree = 0;
  columns = column_as (codes "tab") Integer true ∷ column_as (codes "key") Blob true ∷ column_as (codes "body") Blob true ∷ [];
  key = None;
  primary = 1 ∷ 2 ∷ [];
  uniques = (1 ∷ 2 ∷ []) ∷ [];
  orders = plain ∷ [];
  checks = [];
  references = [];
  computed = [];
  stamps = record { places = []; terms = []; formats = [] };
  is_counted = false;
}

abbrev pub rows_table : Table
rows_table = placed_table (codes "rows")

abbrev pub pending_table : Table
pending_table = placed_table (codes "pending")

abbrev pub meta_table : Table
meta_table = record {
  name = codes "meta";
  tree = 0;
  columns = column_as (codes "name") Text true ∷ column_as (codes "body") Blob true ∷ [];
  key = None;
  primary = 1 ∷ [];
  uniques = (1 ∷ []) ∷ [];
  orders = plain ∷ [];
  checks = [];
  references = [];
  computed = [];
  stamps = record { places = []; terms = []; formats = [] };
  is_counted = false;
}

-- the version is the rowid
abbrev pub log_table : Table
log_table = record {
  name = codes "log";
  tree = 0;
  columns = column_as (codes "version") Integer false ∷ column_as (codes "origin") Integer true ∷ column_as (codes "number") Integer true ∷ column_as (codes "body") Blob true ∷ [];
  key = Some 0;
  primary = 0 ∷ [];
  uniques = [];
  orders = [];
  checks = [];
  references = [];
  computed = [];
  stamps = record { places = []; terms = []; formats = [] };
  is_counted = false;
}

-- ---- the schemas, each with one table more, in the order in which a store makes them

abbrev pub no_schema : Schema
no_schema = record { tables = []; indexes = []; views = [] }

abbrev pub rows_schema : Schema
rows_schema = created no_schema rows_table

abbrev pub two_schema : Schema
two_schema = created rows_schema meta_table

-- a store's before it had pending changes by place
abbrev pub front_schema : Schema
front_schema = created two_schema log_table

abbrev pub store_schema : Schema
store_schema = created front_schema pending_table

-- a database with the store's tables over these trees
abbrev pub store_over : Trees → Database
store_over trees = record { schema = store_schema; trees = trees }

-- ---- the parts of a schema, as they are compared

-- the tables under the trees that they get
abbrev pub placed_at : List ℕ → ℕ → Table
placed_at name tree = record (placed_table name) { tree = tree }

abbrev pub meta_at : Table
meta_at = record meta_table { tree = 2 }

abbrev pub log_at : Table
log_at = record log_table { tree = 4 }

-- an index of a UNIQUE
abbrev pub index_as : List ℕ → ℕ → ℕ → List ℕ → Index
index_as name tree table columns = record { name = name; tree = tree; table = table; columns = columns; order = plain; is_unique = true }

-- the indexes of the tables' keys, each with the tree behind its table's
abbrev pub rows_index : Index
rows_index = index_as (codes "sqlite_autoindex_rows_1") 1 0 (1 ∷ 2 ∷ [])

abbrev pub meta_index : Index
meta_index = index_as (codes "sqlite_autoindex_meta_1") 3 2 (1 ∷ [])

abbrev pub pending_index : Index
pending_index = index_as (codes "sqlite_autoindex_pending_1") 6 5 (1 ∷ 2 ∷ [])

-- the two schemas, written out
abbrev pub front_parts : Schema
front_parts = record { tables = front_schema.tables; indexes = rows_index ∷ meta_index ∷ []; views = [] }

abbrev pub store_parts : Schema
store_parts = record { tables = store_schema.tables; indexes = rows_index ∷ meta_index ∷ pending_index ∷ []; views = [] }

-- nothing but columns and keys
pub record IsBare (table : Table) : Type 0 where
  pub checks : table.checks ≡ []
  pub references : table.references ≡ []
  pub computed : table.computed ≡ []
  pub stamps : table.stamps ≡ record { places = []; terms = []; formats = [] }
  pub uncounted : table.is_counted ≡ false

-- one key of these places, which isn't the rowid
pub record IsKeyed (table : Table) (places : List ℕ) : Type 0 where
  pub key : table.key ≡ None
  pub primary : table.primary ≡ places
  pub uniques : table.uniques ≡ places ∷ []
  pub orders : table.orders ≡ plain ∷ []

-- the only key is the rowid, which the first column stands for
pub record IsNumbered (table : Table) : Type 0 where
  pub key : table.key ≡ Some 0
  pub primary : table.primary ≡ 0 ∷ []
  pub uniques : table.uniques ≡ []
  pub orders : table.orders ≡ []

-- this name and this tree, and nothing but columns and keys
pub record IsNamed (table : Table) (text : List ℕ) (number : ℕ) : Type 0 where
  pub name : table.name ≡ text
  pub tree : table.tree ≡ number
  pub bare : IsBare table
