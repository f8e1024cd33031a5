use Rattle.std.proofs.Common.{take}
use Rattle.cs_pending.specs.EditLists.{AreEdited}
use Rattle.cs_pending.specs.Settling.{IsWithin, Settles}
use Rattle.cs_pending.specs.Shows.{ShowsRows, ShowsSome}
use Rattle.cs_pending.specs.Storing.{WasRead}
use Rattle.cs_pending.specs.View.{View}
use Rattle.cs_pending.proofs.edits.edit_rows.Given as goal

-- the store was only read so far, and the edits so far are made and settled
abbrev pub invariant-loop-at : goal.invariant-loop-at
invariant-loop-at g l = record {
  read : WasRead g.S.RowStore (ShowsSome l.fn.catalog (g.S.RowStore.contents l.fn.store)) l.fn.store l.store;
  within : IsWithin l.fn.catalog l.settling;
  edited : g.S.RowStore.honest l.store → (view : View) → ShowsRows l.fn.catalog (g.S.RowStore.contents l.fn.store) view
      → (between : View) × AreEdited l.fn.catalog (take l.at l.edits) view between
      × Settles l.fn.catalog (g.S.RowStore.contents l.fn.store) l.fn.pending l.settling between;
}
