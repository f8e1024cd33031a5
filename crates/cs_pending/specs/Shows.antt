-- What a store shows: rows, and sound changes that are pending.
use Rattle.std.specs.Prelude.{◌≡◌, ◌≤◌, ℕ, pos, List, length, Some, option_map, IfSome, slice_get, Contains}
use Rattle.std.specs.FinMap.{get}
use Rattle.cs_value.specs.declared.catalog.TableDef.{TableDef}
use Rattle.cs_change.specs.Action.{action_any}
use Rattle.cs_change.specs.Net.{net}
use Rattle.cs_change.specs.Spelling.{change_spelling, FitsChange}
use Rattle.cs_normal.specs.State.{State, IsStateOf}
use Rattle.cs_store.specs.Contents.{Contents, StorePlace, stored_pending}
use Rattle.cs_store.specs.States.{Holds}
use Rattle.cs_pending.specs.View.{View, Changed, before}

-- the changes are the net changes from the rows before them, which are rows of the tables too
pub record IsSoundOf (tables : List TableDef) (changed : Changed) (after : State) : Type 0 where
  pub before_state : IsStateOf tables (before changed after)
  pub after_state : IsStateOf tables after
  pub net_of : (table : TableDef) (key : List ℕ) → Contains tables table
      → action_any (changed table.name key) ≡ net table.key_marks (before changed after table.name key) (after table.name key)

-- the store has these pending changes, each such as its reader takes
pub record Pends (tables : List TableDef) (contents : Contents) (pending : Changed) : Type 0 where
  pub stored : (number : ℕ) (table : TableDef) (key : List ℕ) → slice_get tables number ≡ Some table
      → stored_pending contents number key ≡ option_map change_spelling (pending table.name key)
  pub fits : (table : TableDef) (key : List ℕ) → Contains tables table → IfSome (pending table.name key) (FitsChange table.key_marks)

-- the store has the rows and the pending changes of a view, and these are sound
pub record ShowsRows (tables : List TableDef) (contents : Contents) (view : View) : Type 0 where
  pub rows : Holds tables contents view.tables
  pub pends : Pends tables contents view.pending
  pub sound : IsSoundOf tables view.pending view.tables

-- the store shows rows and pending changes
abbrev pub ShowsSome : List TableDef → Contents → Type 0
ShowsSome tables contents = (view : View) × ShowsRows tables contents view

-- a place under the number of no table
abbrev pub IsElsewhere : List TableDef → StorePlace → Type 0
IsElsewhere tables place = (number : ℕ) → place.0 ≡ pos number → length tables ≤ number

-- two contents differ at places of the tables alone: values, log and all places elsewhere are the same
pub record SameRest (tables : List TableDef) (old new : Contents) : Type 0 where
  pub meta : new.meta ≡ old.meta
  pub log : new.log ≡ old.log
  pub rows : (place : StorePlace) → IsElsewhere tables place → get new.rows place ≡ get old.rows place
  pub pending : (place : StorePlace) → IsElsewhere tables place → get new.pending place ≡ get old.pending place
