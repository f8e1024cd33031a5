-- What a call leaves of a replica's store where it stops or fails (profile of this project).
use Rattle.std.specs.Prelude.{◌≡◌, ◌⊎◌, ◌≤◌}
use Rattle.cs_pending.specs.position.Laws.{FitsPosition}
use Rattle.cs_pending.specs.declared.position.position.Position.{Position}
use Rattle.cs_pending.specs.View.{View}
use Rattle.cs_replica.specs.Holding.{Holding, Shows}
use Rattle.cs_store.specs.Calls.{MoreFailures}
use Rattle.cs_store.specs.Contents.{Contents}
use Rattle.cs_store.specs.declared.store.RowStore.{Ghosts}
use Rattle.cs_value.specs.Catalog.{AreTables}

-- a stop leaves what the store holds. Where nothing was written, it may leave what could be left before. Or it leaves what a commit that
-- failed would have left, of the replica as it stands then
abbrev pub CallLeaves : {S : Type 0} → Ghosts S → (Position → Contents → Contents → Type 0) → Holding S → Holding S → Type 0
CallLeaves g failed old new =
    g.honest new.store → AreTables old.catalog → FitsPosition old.position → (view : View) → Shows g.contents old view
    → (left : Contents) → g.may_leave new.store left
    → (left ≡ g.contents new.store)
    ⊎ ((g.may_leave old.store left × (g.contents new.store ≡ g.contents old.store) × (new.catalog ≡ old.catalog) × (new.position ≡ old.position))
    ⊎ failed new.position (g.contents new.store) left)

-- the count of failures doesn't fall, and where a failed device is told it rose
pub record Counts {S : Type 0} (g : Ghosts S) (told : Type 0) (old new : Holding S) : Type 0 where
  pub later : g.failed old.store ≤ g.failed new.store
  pub cause : told → MoreFailures (g.failed old.store) (g.failed new.store)
