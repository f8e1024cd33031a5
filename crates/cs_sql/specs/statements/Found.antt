-- A database that was found.
use Rattle.std.specs.Prelude.{◌≡◌, ◌≢◌, ◌↔◌, ◌<◌, ◌⊎◌, ⊤, ℕ, ◌+◌, ◌^◌, ℤ, pos, Bool, List, [], ◌∷◌, ◌++◌, length, Option, Some, None, IsTrue}
use Rattle.std.specs.Ordering.{is_eq, int_cmp}
use Rattle.std.specs.FinMap.{empty}
use Rattle.std.specs.List.{AllByRecursion, list_any}
use Rattle.std.specs.declared.cmp.Ordering.TheVariants.{Less}
use Rattle.sqlite.specs.Effect.{Database}
use Rattle.sqlite.specs.Order.{Row, column}
use Rattle.sqlite.specs.Schema.{Schema}
use Rattle.sqlite.specs.State.{State, Shown}
use Rattle.sqlite.specs.Tree.{Trees}
use Rattle.sqlite_value.specs.declared.value.Value.TheVariants.{Int}
use Rattle.sqlite_value.specs.Order.{value_cmp}
use Rattle.cs_order.specs.Order.{by_bytes}
use Rattle.cs_store.specs.Contents.{Contents, HasEachEntry, log_count, place_cmp}
use Rattle.cs_sql.specs.schema.Schemas.{no_schema, front_schema, store_schema}
use Rattle.cs_sql.specs.declared.statements.counting.Ids.{Ids}
use Rattle.cs_sql.specs.declared.statements.counting.LogFound.{LogFound}
use Rattle.cs_sql.specs.declared.statements.looking.Found.{Found}
use Rattle.cs_sql.specs.declared.statements.looking.Found.TheVariants.{Fresh, Front, Ours, Foreign}
use Rattle.cs_sql.specs.statements.Tables.{Apart, IsKept, IsMapped, IsRow, IsMeta, IsLog, contents_in, row_pair, value_pair, entry_pair, same_id}

-- ---- rowids, as a query shows them

abbrev pub ShowsNumber : Row → Type 0
ShowsNumber row = (id : ℤ) × (column row 0 ≡ Int id)

-- each rowid is below the next
abbrev pub Rise : List Row → Type 0
Rise [] = ⊤
Rise (row ∷ rows) = AllByRecursion (λ other. value_cmp (column row 0) (column other 0) ≡ Less) rows × Rise rows

-- the last row, if there is one, shows this number
abbrev pub ShowsLast : Option ℤ → List Row → Type 0
ShowsLast None rows = rows ≡ []
ShowsLast (Some id) rows = (before : List Row) × (last : Row) × (rows ≡ before ++ last ∷ []) × (column last 0 ≡ Int id)

-- each rowid is the number of its place, from this one on
abbrev pub AreNumbered : ℕ → List Row → Type 0
AreNumbered from [] = ⊤
AreNumbered from (row ∷ rows) = (column row 0 ≡ Int (pos from)) × AreNumbered (from + 1) rows

-- what is told of rowids that were read is so
pub record AreSeen (seen : Ids) (rows : List Row) : Type 0 where
  pub count_is : seen.count ≡ length rows
  pub rise : IsTrue seen.rise ↔ (AllByRecursion ShowsNumber rows × Rise rows)
  pub last_is : IsTrue seen.rise → ShowsLast seen.last rows
  pub numbered : IsTrue seen.are_numbered ↔ AreNumbered 0 rows

-- the query showed rowids, of which that is told
pub record ShowsIds (sql : List ℕ) (old new : State) (seen : Ids) : Type 0 where
  pub rows : List Row
  pub shown : Shown sql [] old new rows
  pub are : AreSeen seen rows

-- the rows of a table are numbered apart
pub record AreApart (rows : List Row) : Type 0 where
  pub whole : AllByRecursion ShowsNumber rows
  pub apart : Apart same_id rows

-- the tables of a store's front or of a store
abbrev pub HasFront : Schema → Type 0
HasFront schema = (schema ≡ front_schema) ⊎ (schema ≡ store_schema)

-- whether it is the row of a version
abbrev pub is_version : ℕ → Row → Bool
is_version version row = is_eq (value_cmp (column row 0) (Int (pos version)))

-- a row of the log stands at each version below their count
abbrev pub HasEachVersion : List Row → Type 0
HasEachVersion rows = (version : ℕ) → version < length rows → IsTrue (list_any (is_version version) rows)

-- what was found of the rows of the log is so
pub record AreEntries (rows : List Row) (found : LogFound) : Type 0 where
  pub apart : AreApart rows
  pub count_is : found.entries ≡ length rows
  pub whole : IsTrue found.is_whole ↔ HasEachVersion rows
  pub fits : found.entries < 2 ^ 32

-- the tables but `pending` are numbered apart, and that was found of the log
pub record IsCounted (trees : Trees) (found : LogFound) : Type 0 where
  pub rows : AreApart (trees 0)
  pub meta : AreApart (trees 2)
  pub log : AreEntries (trees 4) found

-- the tables but `pending` are numbered apart, and the log has no more rows than there are versions
pub record AreCountable (trees : Trees) : Type 0 where
  pub rows : AreApart (trees 0)
  pub meta : AreApart (trees 2)
  pub log : AreApart (trees 4)
  pub fits : length (trees 4) < 2 ^ 32

-- ---- what was found

-- what the tables but `pending` hold
abbrev pub front_in : Trees → Contents
front_in trees = record (contents_in trees) { pending = empty }

-- the three tables are maps
pub record IsFrontKept (trees : Trees) : Type 0 where
  pub rows : IsMapped place_cmp row_pair IsRow (trees 0)
  pub meta : IsMapped by_bytes value_pair IsMeta (trees 2)
  pub log : IsMapped int_cmp entry_pair IsLog (trees 4)

-- what was found of a log is so: how many entries it has, no more than there are versions. It says too whether one stands at each
-- version below that number
pub record IsLogOf (contents : Contents) (found : LogFound) : Type 0 where
  pub counted : found.entries ≡ log_count contents
  pub whole : IsTrue found.is_whole ↔ HasEachEntry contents
  pub fits : found.entries < 2 ^ 32

-- the connection was open and is, and shows what it showed, which is what the last commit left
pub record IsUntouched (old new : State) : Type 0 where
  pub was_open : IsTrue old.is_open
  pub is_open : IsTrue new.is_open
  pub now : new.now ≡ old.now
  pub settled : new.committed ≡ new.now

-- it has the tables of a store but `pending`, which are maps, and that was found of its log
abbrev pub IsFrontOf : LogFound → Database → Type 0
IsFrontOf log db = (db.schema ≡ front_schema) × IsFrontKept db.trees × IsLogOf (front_in db.trees) log

-- it has the tables of a store, which are maps, and that was found of its log
abbrev pub IsStoreOf : LogFound → Database → Type 0
IsStoreOf log db = IsKept db × IsLogOf (contents_in db.trees) log

-- what a database was found to be is so; a foreign one is none of the others
abbrev pub IsFound : Found → Database → Type 0
IsFound Fresh db = db.schema ≡ no_schema
IsFound (Front log) db = IsFrontOf log db
IsFound (Ours log) db = IsStoreOf log db
IsFound Foreign db = (db.schema ≢ no_schema) × ((log : LogFound) → ¬ IsFrontOf log db) × ((log : LogFound) → ¬ IsStoreOf log db)
