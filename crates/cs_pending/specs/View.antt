-- Rows, and the changes of them that are pending.
use Rattle.std.specs.Prelude.{ℕ, false, List, Option, Some, None, if◌then◌else◌}
use Rattle.cs_value.specs.Key.{Place}
use Rattle.cs_value.specs.Same.{same_place}
use Rattle.cs_value.specs.declared.catalog.TableDef.{TableDef}
use Rattle.cs_change.specs.Action.{Action, Inserts, Deletes, Updates, action_any}
use Rattle.cs_change.specs.Columns.{set_columns}
use Rattle.cs_change.specs.Net.{net}
use Rattle.cs_change.specs.declared.change.Change.{Change}
use Rattle.cs_normal.specs.State.{State}
use Rattle.cs_change.specs.netting.Combine.{with_flag_any}
use Rattle.cs_apply.specs.Spots.{same_spot}

-- a change or none at each place: at a table's name and the bytes of a key
abbrev pub Changed : Type 0
Changed = List ℕ → List ℕ → Option Change

-- what a place held before a change that left this there
unfoldable pub undo : Option Action → Place → Place
undo None place = place
undo (Some (Inserts new)) place = None
undo (Some (Deletes old)) place = Some old
undo (Some (Updates old new)) None = None
undo (Some (Updates old new)) (Some row) = Some (set_columns old row)

-- the rows before changes that left these
abbrev pub before : Changed → State → State
before changed state = λ name key. undo (action_any (changed name key)) (state name key)

-- one place holds this, and each other what it held
abbrev pub put_at : {A : Type 0} → List ℕ → List ℕ → A → (List ℕ → List ℕ → A) → List ℕ → List ℕ → A
put_at name key x held = λ n k. if same_spot (n, k) (name, key) then x else held n k

-- the rows of tables, and a pending change or none at each place
pub record View : Type 0 where
  pub tables : State
  pub pending : Changed

-- the rows before what is pending
abbrev pub middle : View → State
middle view = before view.pending view.tables

-- the net change of two rows or none, not indirect
abbrev pub direct_net : TableDef → Place → Place → Option Change
direct_net table base mine = with_flag_any false (net table.key_marks base mine)

-- a place where this stands now, and what is pending leads to it from what is said to have stood before
abbrev pub settled : TableDef → List ℕ → Place → Place → View → View
settled table key base mine view = record {
  tables = put_at table.name key mine view.tables;
  pending = put_at table.name key (direct_net table base mine) view.pending;
}

-- another row or none at a place; what is pending there leads to it from what stood before. Where it is the row or none that
-- stands there, nothing changes.
abbrev pub edited : TableDef → List ℕ → Place → View → View
edited table key mine view =
    if same_place (view.tables table.name key) mine then view
    else settled table key (middle view table.name key) mine view
