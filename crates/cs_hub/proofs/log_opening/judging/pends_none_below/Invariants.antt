use Rattle.cs_pending.specs.Storing.{WasRead}
use Rattle.cs_hub.specs.log_opening.Steps.{PendsNoneBelow}
use Rattle.cs_hub.proofs.log_opening.judging.pends_none_below.Given as goal

-- the store was only read so far, and it is so below this one
abbrev pub invariant-loop-number : goal.invariant-loop-number
invariant-loop-number g l = record {
  read : WasRead g.S.RowStore (Unit {0}) l.fn.store l.store;
  told : g.S.RowStore.honest l.store → PendsNoneBelow (g.S.RowStore.contents l.fn.store) l.number;
}
