-- The rows of tables in a store.
use Rattle.std.specs.Prelude.{◌≡◌, ◌≢◌, ◌<◌, ℕ, List, ◌++◌, length, map, option_map, Option, Some, None, slice_get, All}
use Rattle.std.specs.Int.{to_be_bytes, w32}
use Rattle.std.specs.List.Sorted.{IsStrictlySortedBy}
use Rattle.cs_value.specs.Key.{Place}
use Rattle.cs_change.specs.Spelling.{FitsRow}
use Rattle.cs_value.specs.declared.catalog.TableDef.{TableDef}
use Rattle.cs_record.specs.Spelling.{row_bytes}
use Rattle.cs_order.specs.Order.{by_bytes}
use Rattle.cs_store.specs.log.State.{State, IsStateOf}
use Rattle.cs_store.specs.Contents.{Contents, stored_tables}
use Rattle.cs_store.specs.Laws.{row_after}
use Rattle.cs_store.specs.edits.Edits.{BodyEdit}

-- the store holds these rows, and they are rows of the tables. At a table's place in the catalog and the bytes of a key
-- it has the bytes of the row that stands there, or none
pub record Holds (tables : List TableDef) (contents : Contents) (state : State) : Type 0 where
  pub rows : IsStateOf tables state
  pub stored : (number : ℕ) (table : TableDef) (key : List ℕ) → slice_get tables number ≡ Some table
      → stored_tables contents number key ≡ option_map row_bytes (state table.name key)

-- the table's place in the catalog in four bytes, the highest first, and then the bytes of the key
abbrev pub place_bytes : ℕ → List ℕ → List ℕ
place_bytes table key = to_be_bytes w32 table ++ key

abbrev pub edit_place : BodyEdit → List ℕ
edit_place edit = place_bytes edit.table edit.key

-- what a commit of these edits makes of what the store holds is this state. The edits are of the tables, and rise by their
-- tables' places and then by the bytes of their keys. So each place stands in one at most. None leaves what is there
pub record AreEdits (tables : List TableDef) (contents : Contents) (edits : List BodyEdit) (end : State) : Type 0 where
  pub written : (number : ℕ) (table : TableDef) (key : List ℕ) → slice_get tables number ≡ Some table
      → row_after edits number key (stored_tables contents number key) ≡ option_map row_bytes (end table.name key)
  pub within : All (λ edit. edit.table < length tables) edits
  pub rising : IsStrictlySortedBy by_bytes (map edit_place edits)
  pub changing : All (λ edit. edit.body ≢ stored_tables contents edit.table edit.key) edits

-- the bytes of a row with so many columns, or none
abbrev pub IsStored : ℕ → Option (List ℕ) → Place → Type 0
IsStored columns stored None = stored ≡ None
IsStored columns stored (Some row) = FitsRow columns row × (stored ≡ Some (row_bytes row))
