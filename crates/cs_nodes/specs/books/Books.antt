-- A book: a hub over a store, and what its thread knows of a row of cells (profile of this project).
use Rattle.std.specs.Prelude.{◌≡◌, ◌+◌, ◌<◌, ◌≤◌, ◌⊎◌, ℕ, length, min, take}
use Rattle.cs_store.specs.Contents.{Contents}
use Rattle.cs_store.specs.declared.store.RowStore.{Ghosts}
use Rattle.cs_hub.specs.log_store.Shows.{ShowsLog}
use Rattle.cs_spine.specs.Known.{Known, SpineCells}
use Rattle.cs_nodes.specs.following.Standing.{Begins}
use Rattle.cs_hub.specs.Holding.{Holding, Shows}
use Rattle.cs_store.specs.declared.log.entry.TheConstants.{MAX_ENTRIES}

-- the row of cells, the hub, and the pass
pub record BookState (S : Type 0) : Type 0 where
  pub row : SpineCells
  pub hub : Holding S
  pub pass : Known

-- the most entries that it takes: one a cell, and no more than a hub has
abbrev pub most_cells : SpineCells → ℕ
most_cells row = min row.cap MAX_ENTRIES

-- the pass is of the row, and knows no more entries than a hub has. The hub has taken no more than the pass knows. Where its store
-- is honest, it shows the first of these, as many as it has taken
pub record IsBook {S : Type 0} (g : Ghosts S) (book : BookState S) : Type 0 where
  pub of : book.pass.spine ≡ book.row
  pub few : length book.pass.known ≤ MAX_ENTRIES
  pub within : book.hub.newest ≤ length book.pass.known
  pub shows : g.honest book.hub.store → Shows g.contents book.hub (take book.hub.newest book.pass.known)

-- the book has gone on: it is of the same row and the same tables. It knows what it knew, and maybe more. It has taken what it had
-- taken, and maybe more, each entry in a commit of its own. `finished` says that no commit failed
pub record IsLater {S : Type 0} (g : Ghosts S) (finished : Type 0) (old new : BookState S) : Type 0 where
  pub row : new.row ≡ old.row
  pub catalog : new.hub.catalog ≡ old.hub.catalog
  pub begins : Begins old.pass.known new.pass.known
  pub onwards : old.hub.newest ≤ new.hub.newest
  pub was_honest : g.honest new.hub.store → g.honest old.hub.store
  -- a stop leaves what the store holds. Where nothing was written, it may leave what it could before. Where a commit failed, it may leave the
  -- log with the next entry
  pub crash : g.honest new.hub.store → (left : Contents) → g.may_leave new.hub.store left
      → (left ≡ g.contents new.hub.store)
      ⊎ ((g.may_leave old.hub.store left × (g.contents new.hub.store ≡ g.contents old.hub.store))
      ⊎ ((finished → ⊥) × (new.hub.newest < length new.pass.known) × ShowsLog new.hub.catalog left (take (new.hub.newest + 1) new.pass.known)))
  pub later : g.failed old.hub.store ≤ g.failed new.hub.store
  -- nothing that can be read is told to be no such thing
  pub as_read : g.honest new.hub.store → g.misreads new.hub.store ≡ g.misreads old.hub.store
