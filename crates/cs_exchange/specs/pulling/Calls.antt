-- What calls leave of a store that may commit more than once.
use Rattle.std.specs.Prelude.{◌≡◌, ◌≤◌, ◌⊎◌}
use Rattle.cs_store.specs.Contents.{Contents}
use Rattle.cs_store.specs.Calls.{MoreFailures}
use Rattle.cs_store.specs.declared.store.RowStore.{Ghosts}

-- the store was written in whole commits, one after another. `finished` says that all that was asked of it was done, and `device`
-- that a failed device is told. `readable` says that what is read there is what its places say. `between` is what is said of
-- contents that stood after one of the commits, and `further` of those that one commit more would have left
pub record WritesInTurn {S : Type 0} (g : Ghosts S)
    (finished device readable : Type 0) (between further : Contents → Type 0) (old new : S) : Type 0 where
  pub was_honest : g.honest new → g.honest old
  -- at the end a stop leaves what the store holds, so that what was told to be done stays. Where nothing was written, it may also leave
  -- what it could before. Where not all was done, it may leave what one commit more would have left
  pub durable : g.honest new → (left : Contents) → g.may_leave new left
      → (left ≡ g.contents new) ⊎ ((g.may_leave old left × (g.contents new ≡ g.contents old)) ⊎ ((finished → ⊥) × further left))
  -- in any case a stop leaves what it could leave before, or what stood after one of the commits
  pub crash : g.honest new → (left : Contents) → g.may_leave new left → g.may_leave old left ⊎ between left
  pub kept : finished → g.failed new ≡ g.failed old
  pub later : g.failed old ≤ g.failed new
  pub cause : device → MoreFailures (g.failed old) (g.failed new)
  pub as_read : g.honest new → readable → g.misreads new ≡ g.misreads old
