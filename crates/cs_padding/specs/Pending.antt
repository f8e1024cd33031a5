-- What is pending of a table that gets more columns.
use Rattle.std.specs.Prelude.{◌≡◌, ◌≢◌, ◌<◌, ℕ, List, length, map, option_map, Some, slice_get, All, if◌then◌else◌, fold, Contains, IfSome}
use Rattle.std.specs.FinMap.{len}
use Rattle.std.specs.List.Sorted.{IsStrictlySortedBy}
use Rattle.std.specs.Str.{bytes_eq}
use Rattle.cs_value.specs.declared.catalog.TableDef.{TableDef}
use Rattle.cs_order.specs.Order.{by_bytes}
use Rattle.cs_change.specs.Spelling.{FitsChange, change_spelling}
use Rattle.cs_store.specs.Contents.{Contents, stored_pending}
use Rattle.cs_store.specs.Laws.{row_after}
use Rattle.cs_store.specs.States.{edit_place}
use Rattle.cs_store.specs.Written.{edit_body}
use Rattle.cs_store.specs.edits.Edits.{BodyEdit}
use Rattle.cs_pending.specs.Settling.{AreWithin}
use Rattle.cs_pending.specs.Shows.{Pends}
use Rattle.cs_pending.specs.View.{Changed, View}
use Rattle.cs_widening.specs.Widening.{widened, widened_change}

-- each pending change of the table with this name has so many columns
abbrev pub widened_pending : List ℕ → ℕ → Changed → Changed
widened_pending name width pending = λ table key.
    if bytes_eq table name then option_map (widened_change width) (pending table key) else pending table key

-- the rows and the pending changes of a view, where those of the table have so many columns
abbrev pub widened_view : List ℕ → ℕ → View → View
widened_view name width view = record {
  tables = widened name width view.tables;
  pending = widened_pending name width view.pending;
}

-- what a commit of these edits makes of what is pending is this. The edits are of the tables, and rise by their tables' places and
-- then by the bytes of their keys. So each place stands in one at most. None leaves what is there
pub record ArePendingEdits (tables : List TableDef) (contents : Contents) (edits : List BodyEdit) (end : Changed) : Type 0 where
  pub written : (number : ℕ) (table : TableDef) (key : List ℕ) → slice_get tables number ≡ Some table
      → row_after edits number key (stored_pending contents number key) ≡ option_map change_spelling (end table.name key)
  pub within : All (λ edit. edit.table < length tables) edits
  pub rising : IsStrictlySortedBy by_bytes (map edit_place edits)
  pub changing : All (λ edit. edit.body ≢ stored_pending contents edit.table edit.key) edits

-- what a commit of these edits makes of what is pending is this, each change such as its reader takes. The edits are of the tables, in
-- any order, and a place may stand in several
pub record MakesPending (tables : List TableDef) (contents : Contents) (edits : List BodyEdit) (end : Changed) : Type 0 where
  pub written : (number : ℕ) (table : TableDef) (key : List ℕ) → slice_get tables number ≡ Some table
      → row_after edits number key (stored_pending contents number key) ≡ option_map change_spelling (end table.name key)
  pub within : AreWithin tables edits
  pub fits : (table : TableDef) (key : List ℕ) → Contains tables table → IfSome (end table.name key) (FitsChange table.key_marks)

-- how many changes are pending after a commit of these edits
abbrev pub pending_after : Contents → List BodyEdit → ℕ
pending_after contents edits = len (fold edit_body contents.pending edits)

-- the store has some pending changes
abbrev pub PendsSome : List TableDef → Contents → Type 0
PendsSome tables contents = (pending : Changed) × Pends tables contents pending
