-- The laws of views.
use Rattle.std.specs.Prelude.{◌≡◌, ℕ, List, None, Ok, Contains}
use Rattle.cs_value.specs.Catalog.{AreTables}
use Rattle.cs_value.specs.declared.catalog.TableDef.{TableDef}
use Rattle.cs_value.specs.declared.edit.Edit.{Edit}
use Rattle.cs_normal.specs.State.{AreSame, IsStateOf}
use Rattle.cs_store.specs.Contents.{Contents, nothing}
use Rattle.cs_pending.specs.EditLists.{AreEdited}
use Rattle.cs_pending.specs.Edits.{Asked, edit}
use Rattle.cs_pending.specs.View.{View, middle}
use Rattle.cs_pending.specs.Shows.{IsSoundOf, ShowsRows}

-- contents show one view, at the places of the tables
abbrev pub OneView : Type 0
OneView =
    (tables : List TableDef) (contents : Contents) (some other : View)
    → ShowsRows tables contents some
    → ShowsRows tables contents other
    → AreSame some.tables other.tables
    × ((table : TableDef) (key : List ℕ) → Contains tables table → other.pending table.name key ≡ some.pending table.name key)

-- no row, and nothing pending
abbrev pub empty_view : View
empty_view = record { tables = λ name key. None; pending = λ name key. None }

-- what a new store shows
abbrev pub NewShows : Type 0
NewShows = (tables : List TableDef) → ShowsRows tables nothing empty_view

-- an edit keeps the rows before what is pending
abbrev pub EditKeepsBefore : Type 0
EditKeepsBefore =
    (tables : List TableDef) (name : List ℕ) (asked : Asked) (view next : View)
    → AreTables tables
    → IsSoundOf tables view.pending view.tables
    → IsStateOf tables next.tables
    → edit tables name asked view ≡ Ok next
    → AreSame (middle view) (middle next)

-- edits one behind another leave one view
abbrev pub OneEdits : Type 0
OneEdits =
    (tables : List TableDef) (edits : List Edit) (view some other : View)
    → AreEdited tables edits view some
    → AreEdited tables edits view other
    → other ≡ some
