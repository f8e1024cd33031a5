-- The laws of stores whose tables get more columns.
use Rattle.std.specs.Prelude.{◌≡◌, ℕ, List}
use Rattle.std.specs.FinMap.{len}
use Rattle.cs_value.specs.Catalog.{AreTables}
use Rattle.cs_value.specs.declared.catalog.TableDef.{TableDef}
use Rattle.cs_normal.specs.State.{State}
use Rattle.cs_store.specs.Contents.{Contents}
use Rattle.cs_store.specs.States.{AreEdits}
use Rattle.cs_store.specs.Written.{after_batch}
use Rattle.cs_store.specs.declared.batch.Batch.{Batch}
use Rattle.cs_store.specs.edits.Edits.{BodyEdit}
use Rattle.cs_pending.specs.Shows.{IsSoundOf, SameRest, ShowsRows}
use Rattle.cs_pending.specs.View.{Changed, View, before}
use Rattle.cs_widening.specs.Widening.{CanWiden, widened, widened_tables}
use Rattle.cs_padding.specs.Pending.{ArePendingEdits, widened_pending, widened_view}

-- one list of edits makes a state of the tables
abbrev pub OneRowEdits : Type 0
OneRowEdits =
    (tables : List TableDef) (contents : Contents) (some others : List BodyEdit) (end : State)
    → AreTables tables
    → AreEdits tables contents some end
    → AreEdits tables contents others end
    → some ≡ others

-- and one makes what is pending
abbrev pub OnePendingEdits : Type 0
OnePendingEdits =
    (tables : List TableDef) (contents : Contents) (some others : List BodyEdit) (end : Changed)
    → AreTables tables
    → ArePendingEdits tables contents some end
    → ArePendingEdits tables contents others end
    → some ≡ others

-- what is pending stays sound, and the rows before it have the new columns too
abbrev pub SoundWidens : Type 0
SoundWidens =
    (tables : List TableDef) (name : List ℕ) (width : ℕ) (changed : Changed) (after : State)
    → AreTables tables
    → CanWiden tables name width
    → IsSoundOf tables changed after
    → IsSoundOf (widened_tables name width tables) (widened_pending name width changed) (widened name width after)
    × ((table key : List ℕ) → before (widened_pending name width changed) (widened name width after) table key
    ≡ widened name width (before changed after) table key)

-- a commit of the edits of both, rows and pending changes, leaves a store that shows what it showed, with the new columns
abbrev pub ShowsWidens : Type 0
ShowsWidens =
    (tables : List TableDef) (name : List ℕ) (width : ℕ) (batch : Batch) (contents : Contents) (view : View)
    → AreTables tables
    → CanWiden tables name width
    → ShowsRows tables contents view
    → AreEdits (widened_tables name width tables) contents batch.rows (widened name width view.tables)
    → ArePendingEdits (widened_tables name width tables) contents batch.pending (widened_pending name width view.pending)
    → ShowsRows (widened_tables name width tables) (after_batch batch contents) (widened_view name width view)

-- there is a store that shows with the new columns what a store shows. Elsewhere it holds the same, and as many changes are pending
abbrev pub WideStoreCanBe : Type 0
WideStoreCanBe =
    (tables : List TableDef) (name : List ℕ) (width : ℕ) (contents : Contents) (view : View)
    → AreTables tables
    → CanWiden tables name width
    → ShowsRows tables contents view
    → (wide : Contents) × SameRest tables contents wide × (len wide.pending ≡ len contents.pending)
    × ((seen : View) → ShowsRows tables contents seen → ShowsRows (widened_tables name width tables) wide (widened_view name width seen))
