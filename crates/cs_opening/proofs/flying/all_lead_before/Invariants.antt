use Rattle.std.proofs.Common.{drop}
use Rattle.cs_pending.specs.Shows.{ShowsRows, ShowsSome}
use Rattle.cs_pending.specs.Storing.{WasRead}
use Rattle.cs_pending.specs.View.{View}
use Rattle.cs_opening.specs.Steps.{ChangesLead}
use Rattle.cs_opening.proofs.flying.all_lead_before.Given as goal

-- the store was only read so far, and all lead where the rest does
abbrev pub invariant-loop-at : goal.invariant-loop-at
invariant-loop-at g l = record {
  read : WasRead g.S.RowStore (ShowsSome l.fn.catalog (g.S.RowStore.contents l.fn.store)) l.fn.store l.store;
  told : g.S.RowStore.honest l.store → (view : View) → ShowsRows l.fn.catalog (g.S.RowStore.contents l.fn.store) view
      → (ChangesLead view l.fn.table.name l.fn.table.key_marks (drop l.at l.changes) → ChangesLead view l.fn.table.name l.fn.table.key_marks l.changes)
      × (ChangesLead view l.fn.table.name l.fn.table.key_marks l.changes → ChangesLead view l.fn.table.name l.fn.table.key_marks (drop l.at l.changes));
}
