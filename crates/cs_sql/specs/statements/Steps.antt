-- What the steps of a commit leave of a connection, and what a query shows.
use Rattle.std.specs.Prelude.{◌≡◌, ℤ, ℕ, pos, ◌+◌, Bool, true, false, if◌then◌else◌, List, [], ◌∷◌, ◌++◌, length, Option, Some, None, IsTrue, IfSome, fold}
use Rattle.std.specs.Ordering.{is_eq}
use Rattle.std.specs.FinMap.{get, insert, remove}
use Rattle.sqlite.specs.Order.{Row, column}
use Rattle.sqlite.specs.Edit.{id_in}
use Rattle.sqlite_value.specs.declared.value.Value.TheVariants.{Int}
use Rattle.sqlite_value.specs.Order.{bytes, value_cmp}
use Rattle.sqlite.specs.Effect.{IsDatabase}
use Rattle.sqlite.specs.State.{State, KeepsCommit}
use Rattle.sqlite.specs.Tree.{Trees}
use Rattle.cs_store.specs.Contents.{Bodies, Contents, LogItem}
use Rattle.cs_store.specs.Written.{edit_body, edit_meta, items_of, with_entry, optional_entry}
use Rattle.cs_store.specs.edits.Edits.{BodyEdit}
use Rattle.cs_store.specs.declared.batch.MetaEdit.{MetaEdit}
use Rattle.cs_store.specs.declared.batch.Batch.{Batch}
use Rattle.cs_sql.specs.schema.Schemas.{store_schema}
use Rattle.cs_sql.specs.declared.statements.reading.Entries.{Entries}
use Rattle.cs_sql.specs.declared.statements.spaces.Space.{Space}
use Rattle.cs_sql.specs.declared.statements.spaces.Space.TheVariants.{Rows, Pending}
use Rattle.cs_sql.specs.statements.Tables.{AreKept, IsKept, contents_in, number_of}

-- inside a transaction on the store's tables
pub record IsInside (s : State) : Type 0 where
  pub writes : IsTrue s.in_transaction
  pub sound : IsTrue s.is_open → IsDatabase s.now
  pub kept : IsTrue s.is_open → IsKept s.now

-- the transaction goes on, and now holds this
pub record Edits (after : Contents) (old new : State) : Type 0 where
  pub inside : IsInside new
  pub kept : KeepsCommit old new
  pub stays : IsTrue old.is_open → IsTrue new.is_open
  pub contents : IsTrue new.is_open → contents_in new.now.trees ≡ after

-- what one of the two tables holds
abbrev pub placed : Space → Contents → Bodies
placed Rows c = c.rows
placed Pending c = c.pending

abbrev pub with_placed : Space → Bodies → Contents → Contents
with_placed Rows bodies c = record c { rows = bodies }
with_placed Pending bodies c = record c { pending = bodies }

-- the contents without the body at a place, and with a body there
abbrev pub without_at : Space → ℤ → List ℕ → Contents → Contents
without_at space table key c = with_placed space (remove (placed space c) (table, key)) c

abbrev pub with_at : Space → ℤ → List ℕ → List ℕ → Contents → Contents
with_at space table key body c = with_placed space (insert (placed space c) (table, key) body) c

abbrev pub with_edit : Space → BodyEdit → Contents → Contents
with_edit space edit c = with_placed space (edit_body (placed space c) edit) c

abbrev pub with_edits : Space → List BodyEdit → Contents → Contents
with_edits space edits c = with_placed space (fold edit_body (placed space c) edits) c

abbrev pub without_named : List ℕ → Contents → Contents
without_named name c = record c { meta = remove c.meta name }

abbrev pub with_named : List ℕ → List ℕ → Contents → Contents
with_named name value c = record c { meta = insert c.meta name value }

abbrev pub with_value : MetaEdit → Contents → Contents
with_value edit c = record c { meta = edit_meta c.meta edit }

abbrev pub with_values : List MetaEdit → Contents → Contents
with_values edits c = record c { meta = fold edit_meta c.meta edits }

-- with an entry of the log at this version
abbrev pub with_log : ℤ → Option LogItem → Contents → Contents
with_log version entry c = record c { log = with_entry version c.log entry }

abbrev pub with_batch : Batch → ℤ → Contents → Contents
with_batch batch version c = with_log version (optional_entry batch.log) (with_values batch.meta.items (with_edits Pending batch.pending (with_edits Rows batch.rows c)))

-- what a stop may leave of a commit: a store's trees that hold the whole batch, whose entry stands at a version that had none
pub record HasBatch (batch : Batch) (version : ℤ) (old : State) (trees : Trees) : Type 0 where
  pub was_open : IsTrue old.is_open
  pub kept : AreKept trees
  pub contents : contents_in trees ≡ with_batch batch version (contents_in old.now.trees)
  pub free : IfSome batch.log (λ _. get (contents_in old.now.trees).log version ≡ None)

-- a connection that is open, between two transactions
pub record Serves (s : State) : Type 0 where
  pub is_open : IsTrue s.is_open
  pub settled : s.committed ≡ s.now

-- the store's tables and nothing else, with nothing under way
pub record IsOurs (s : State) : Type 0 where
  pub schema : s.now.schema ≡ store_schema
  pub settled : s.committed ≡ s.now

-- between two transactions
pub record IsReady (s : State) : Type 0 where
  pub kept : IsKept s.now
  pub settled : s.committed ≡ s.now

-- the change is committed
pub record IsWritten (after : Contents) (old new : State) : Type 0 where
  pub was_open : IsTrue old.is_open
  pub is_open : IsTrue new.is_open
  pub ready : IsReady new
  pub contents : contents_in new.now.trees ≡ after

-- whatever was done, the connection shows what it showed, where it is open
pub record Stays (old new : State) : Type 0 where
  pub was_open : IsTrue new.is_open → IsTrue old.is_open
  pub now : IsTrue new.is_open → new.now ≡ old.now
  pub committed : IsTrue new.is_open → new.committed ≡ old.committed

-- what the first row of an answer shows, if there is one
abbrev pub first_read : {X : Type 0} → (Row → X) → List Row → Option X
first_read reads [] = None
first_read reads (row ∷ rows) = Some (reads row)

abbrev pub body_read : Row → List ℕ
body_read row = bytes (column row 0)

abbrev pub item_read : Row → LogItem
item_read row = record { origin = id_in (column row 0); number = number_of (id_in (column row 1)); body = bytes (column row 2) }

-- whether it shows an entry at the version
abbrev pub is_shown_at : ℕ → Row → Bool
is_shown_at version row = is_eq (value_cmp (column row 3) (Int (pos version)))

-- the entries that the rows show, from a version on, up to the first row that shows another version than the next
abbrev pub items_read : ℕ → List Row → List LogItem
items_read next [] = []
items_read next (row ∷ rows) = if is_shown_at next row then item_read row ∷ items_read (next + 1) rows else []

-- each row shows the version after the last, from this one on
abbrev pub AreInTurn : ℕ → List Row → Type 0
AreInTurn next [] = Unit {0}
AreInTurn next (row ∷ rows) = IsTrue (is_shown_at next row) × AreInTurn (next + 1) rows

-- entries that were read of rows, begun at a version, with the version of the next
pub record AreTaken (first : ℕ) (taken : Entries) (rows : List Row) : Type 0 where
  pub items : items_of taken.entries.items ≡ items_read first rows
  pub in_turn : taken.has_ended ≡ false → AreInTurn first rows × (taken.next ≡ first + length rows)
  pub ended : taken.has_ended ≡ true → (more : List Row) → items_read first (rows ++ more) ≡ items_read first rows

-- a key and a body
abbrev pub pair_read : Row → List ℕ × List ℕ
pair_read row = (bytes (column row 0), bytes (column row 1))
