-- What is left where the tables of a store are made.
use Rattle.std.specs.Prelude.{◌≡◌, [], List, ℕ, IsTrue, codes}
use Rattle.std.specs.List.{AllByRecursion}
use Rattle.sqlite.specs.Effect.{IsDatabase}
use Rattle.sqlite.specs.Schema.{Schema}
use Rattle.sqlite.specs.State.{State}
use Rattle.sqlite.specs.Tree.{Trees}
use Rattle.cs_sql.specs.declared.parts.Part.{Part}
use Rattle.cs_sql.specs.declared.parts.Part.TheVariants.{Rows, Pending, Meta, Log}
use Rattle.cs_sql.specs.schema.Schemas.{no_schema, rows_schema, two_schema, front_schema, store_over, store_schema}

-- ---- the statements

abbrev pub create_text : Part → List ℕ
create_text Rows = codes "CREATE TABLE rows (tab INTEGER NOT NULL, key BLOB NOT NULL, body BLOB NOT NULL, PRIMARY KEY (tab, key)) STRICT"
create_text Meta = codes "CREATE TABLE meta (name TEXT NOT NULL PRIMARY KEY, body BLOB NOT NULL) STRICT"
create_text Log = codes "CREATE TABLE log (version INTEGER PRIMARY KEY, origin INTEGER NOT NULL, number INTEGER NOT NULL, body BLOB NOT NULL) STRICT"
create_text Pending = codes "CREATE TABLE pending (tab INTEGER NOT NULL, key BLOB NOT NULL, body BLOB NOT NULL, PRIMARY KEY (tab, key)) STRICT"

-- ---- inside the transaction

-- the tables of a schema have no row
abbrev pub IsEmptyIn : Schema → Trees → Type 0
IsEmptyIn schema trees = AllByRecursion (λ t. trees t.tree ≡ []) schema.tables

-- the schema in which a table is made
abbrev pub schema_before : Part → Schema
schema_before Rows = no_schema
schema_before Meta = rows_schema
schema_before Log = two_schema
schema_before Pending = front_schema

-- and what it is with it
abbrev pub schema_with : Part → Schema
schema_with Rows = rows_schema
schema_with Meta = two_schema
schema_with Log = front_schema
schema_with Pending = store_schema

-- the tree that it gets
abbrev pub tree_with : Part → ℕ
tree_with Rows = 0
tree_with Meta = 2
tree_with Log = 4
tree_with Pending = 5

-- inside a transaction on the tables of a schema
pub record IsAmong (schema : Schema) (s : State) : Type 0 where
  pub writes : IsTrue s.in_transaction
  pub schema_is : IsTrue s.is_open → s.now.schema ≡ schema

-- the table is there and empty, and those made before it are as they were
pub record AddsTable (part : Part) (old new : Trees) : Type 0 where
  pub others : AllByRecursion (λ t. new t.tree ≡ old t.tree) (schema_before part).tables
  pub empty : new (tree_with part) ≡ []

-- one table more
pub record Adds (part : Part) (old new : State) : Type 0 where
  pub was_open : IsTrue old.is_open
  pub is_open : IsTrue new.is_open
  pub sound : IsDatabase new.now
  pub among : IsAmong (schema_with part) new
  pub added : AddsTable part old.now.trees new.now.trees
  pub committed : new.committed ≡ old.committed

-- all tables of a store, with no row
pub record Lays (old new : State) : Type 0 where
  pub was_open : IsTrue old.is_open
  pub is_open : IsTrue new.is_open
  pub sound : IsDatabase new.now
  pub among : IsAmong store_schema new
  pub empty : IsEmptyIn store_schema new.now.trees
  pub committed : new.committed ≡ old.committed

-- ---- after it

-- a store's tables with no row
abbrev pub AreLaidOut : Trees → Type 0
AreLaidOut trees = IsDatabase (store_over trees) × IsEmptyIn store_schema trees

-- a store's tables, of which `pending` has no row and the others are as they were
abbrev pub AreCompleted : Trees → Trees → Type 0
AreCompleted old new = IsDatabase (store_over new) × AddsTable Pending old new

-- the tables of a store are there, with no row, and are committed
pub record IsLaidOut (old new : State) : Type 0 where
  pub was_open : IsTrue old.is_open
  pub is_open : IsTrue new.is_open
  pub schema_is : new.now.schema ≡ store_schema
  pub empty : IsEmptyIn store_schema new.now.trees
  pub settled : new.committed ≡ new.now

-- `pending` is there, and is committed
pub record IsCompleted (old new : State) : Type 0 where
  pub was_open : IsTrue old.is_open
  pub is_open : IsTrue new.is_open
  pub schema_is : new.now.schema ≡ store_schema
  pub added : AddsTable Pending old.now.trees new.now.trees
  pub settled : new.committed ≡ new.now

-- nothing is committed, and where the connection is still open it is as the last commit left it
pub record IsUndone (old new : State) : Type 0 where
  pub was_open : IsTrue new.is_open → IsTrue old.is_open
  pub now : IsTrue new.is_open → new.now ≡ old.committed
  pub committed : IsTrue new.is_open → new.committed ≡ old.committed
