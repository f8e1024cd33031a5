-- The laws of positions.
use Rattle.std.specs.Prelude.{◌≡◌, ◌≤◌, ◌<◌, ◌^◌, ℕ, List, length, None, Contains}
use Rattle.std.specs.FinMap.{len}
use Rattle.cs_value.specs.Catalog.{AreTables}
use Rattle.cs_value.specs.declared.catalog.TableDef.{TableDef}
use Rattle.cs_normal.specs.State.{AreSame}
use Rattle.cs_store.specs.Contents.{Contents}
use Rattle.cs_store.specs.Laws.{value_after}
use Rattle.cs_store.specs.Written.{after_batch}
use Rattle.cs_store.specs.declared.batch.Batch.{Batch}
use Rattle.cs_store.specs.declared.names.MetaName.{MetaName}
use Rattle.cs_pending.specs.Settling.{AreWithin}
use Rattle.cs_pending.specs.Shows.{ShowsRows}
use Rattle.cs_pending.specs.View.{View}
use Rattle.cs_pending.specs.position.Shows.{IsUnderWay, ShowsAt}
use Rattle.cs_pending.specs.position.Values.{value_of}
use Rattle.cs_pending.specs.declared.position.position.Position.{Position}
use Rattle.cs_pending.specs.declared.position.position.TheConstants.{LAST_NUMBER}

-- a commit whose edits of places lead to a view, and whose edits of values lead from one position to another
abbrev pub CommitShows : Type 0
CommitShows =
    (tables : List TableDef) (contents : Contents) (batch : Batch) (old new : Position) (seen view : View)
    → ShowsAt tables contents old seen
    → AreWithin tables batch.rows
    → AreWithin tables batch.pending
    → batch.log ≡ None
    → ((name : MetaName) → value_after batch.meta.items name (value_of tables old name) ≡ value_of tables new name)
    → ShowsRows tables (after_batch batch contents) view
    → IsUnderWay tables new.flight view
    → new.pending ≡ len (after_batch batch contents).pending
    → new.number ≤ LAST_NUMBER
    → ShowsAt tables (after_batch batch contents) new view

-- the same where it leads to other tables too, of which there are as many
abbrev pub CommitShowsOthers : Type 0
CommitShowsOthers =
    (tables others : List TableDef) (contents : Contents) (batch : Batch) (old new : Position) (seen view : View)
    → length others ≡ length tables
    → ShowsAt tables contents old seen
    → AreWithin others batch.rows
    → AreWithin others batch.pending
    → batch.log ≡ None
    → ((name : MetaName) → value_after batch.meta.items name (value_of tables old name) ≡ value_of others new name)
    → ShowsRows others (after_batch batch contents) view
    → IsUnderWay others new.flight view
    → new.pending ≡ len (after_batch batch contents).pending
    → new.number ≤ LAST_NUMBER
    → ShowsAt others (after_batch batch contents) new view

-- the numbers of a position are in range
pub record FitsPosition (position : Position) : Type 0 where
  pub id : position.id < 2 ^ 32
  pub version : position.version < 2 ^ 64

-- contents show a replica of these tables at one position, and one view at their places
abbrev pub OnePosition : Type 0
OnePosition =
    (tables : List TableDef) (contents : Contents) (some other : Position) (view seen : View)
    → AreTables tables
    → FitsPosition some
    → FitsPosition other
    → ShowsAt tables contents some view
    → ShowsAt tables contents other seen
    → (some ≡ other) × AreSame view.tables seen.tables
    × ((table : TableDef) (key : List ℕ) → Contains tables table → seen.pending table.name key ≡ view.pending table.name key)
