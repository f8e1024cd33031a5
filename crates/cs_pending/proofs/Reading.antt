-- What was read at a place: the row or change that stands there, or that there is none.
use Rattle.std.proofs.Common.{◌≡◌, ℕ, List, length, Option, Some, None, option_map, sym, ◌∙◌, subst}
use Rattle.std.specs.Prelude.{slice_get}
use Rattle.cs_value.specs.Catalog.{AreTables}
use Rattle.cs_value.specs.Key.{Place}
use Rattle.cs_value.specs.Laws.{OnePlaceOfName}
use Rattle.cs_value.specs.declared.catalog.TableDef.{TableDef}
use Rattle.cs_record.specs.Spelling.{row_bytes}
use Rattle.cs_change.specs.Action.{action_any}
use Rattle.cs_change.specs.Spelling.{change_spelling, FitsRow}
use Rattle.cs_change.specs.declared.change.Change.{Change}
use Rattle.cs_normal.specs.State.{MayStandAt}
use Rattle.cs_store.specs.Contents.{Contents, stored_pending, stored_tables}
use Rattle.cs_store.specs.Laws.{row_after}
use Rattle.cs_store.specs.States.{IsStored}
use Rattle.cs_apply.specs.NormalTasks.{one_table}
use Rattle.cs_pending.specs.Placing.{StoresSome, StoresSomeChange}
use Rattle.cs_pending.specs.Settling.{SettlesSome}
use Rattle.cs_pending.specs.View.{undo}
use Rattle.cs_pending.specs.Nets.{undo_none}
use Rattle.cs_pending.specs.OnePlace.{contained}
use Rattle.cs_pending.specs.declared.settling.Settling.{Settling}

-- where none is pending, what stands there stood before
pub none_there : (stored : Option (List ℕ)) (change : Option Change) (mine : Place) → stored ≡ None → stored ≡ option_map change_spelling change → mine ≡ undo (action_any change) mine
none_there stored None mine none is = sym (undo_none mine)
none_there stored (Some change) mine none is = absurd (let no = sym none ∙ is in cc)

-- ---- of a view that edits lead to

module _ (one : OnePlaceOfName) (tables : List TableDef) (are : AreTables tables) (number : ℕ) (table : TableDef) (key : List ℕ) (found : slice_get tables number ≡ Some table) where
  -- the row or none of a view, as it is stored
  pub stored_row : (stored : Option (List ℕ)) (place : Place) → MayStandAt tables table.name key place → stored ≡ option_map row_bytes place
      → IsStored (length table.key_marks) stored place
  stored_row stored None stands is = is
  stored_row stored (Some row) (other, among, named, of) is =
      (subst (λ (t : TableDef). FitsRow (length t.key_marks) row) (one_table one tables other table are among (contained tables number table found) named) of.fits, is)

  pub some_row : (contents : Contents) (settling : Settling) → SettlesSome tables contents settling
      → StoresSome (length table.key_marks) (row_after settling.rows number key (stored_tables contents number key))
  some_row contents settling some =
      (some.1.tables table.name key, stored_row _ (some.1.tables table.name key) (some.2.sound.after_state table.name key) (some.2.rows_are number table key found))

pub some_change : (tables : List TableDef) (number : ℕ) (table : TableDef) (key : List ℕ) (contents : Contents) (settling : Settling) → slice_get tables number ≡ Some table
    → SettlesSome tables contents settling → StoresSomeChange table.key_marks (row_after settling.pending number key (stored_pending contents number key))
some_change tables number table key contents settling found some =
    (some.1.pending table.name key, some.2.pending_are number table key found, some.2.fits table key (contained tables number table found))
