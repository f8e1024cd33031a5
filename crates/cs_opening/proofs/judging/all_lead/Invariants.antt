use Rattle.std.proofs.Common.{drop}
use Rattle.cs_pending.specs.Storing.{WasRead}
use Rattle.cs_store.specs.Written.{pairs_of}
use Rattle.cs_opening.specs.Steps.{AreLeading}
use Rattle.cs_opening.proofs.judging.all_lead.Given as goal

-- the store was only read so far, and all lead where the rest does
abbrev pub invariant-loop-stored : goal.invariant-loop-stored
invariant-loop-stored g l = record {
  read : WasRead g.S.RowStore (Unit {0}) l.fn.store l.store;
  told : g.S.RowStore.honest l.store
      → (AreLeading (g.S.RowStore.contents l.fn.store) l.fn.number l.fn.table (pairs_of (drop l.stored-index l.listed)) → AreLeading (g.S.RowStore.contents l.fn.store) l.fn.number l.fn.table (pairs_of l.listed))
      × (AreLeading (g.S.RowStore.contents l.fn.store) l.fn.number l.fn.table (pairs_of l.listed) → AreLeading (g.S.RowStore.contents l.fn.store) l.fn.number l.fn.table (pairs_of (drop l.stored-index l.listed)));
}
