use Rattle.std.proofs.Common.{ℕ, map, drop}
use Rattle.cs_store.specs.Contents.{Contents}
use Rattle.cs_pending.specs.Settling.{IsWithin, Settles}
use Rattle.cs_pending.specs.Shows.{ShowsRows, ShowsSome}
use Rattle.cs_pending.specs.Storing.{WasRead}
use Rattle.cs_pending.specs.View.{View}
use Rattle.cs_exchange.specs.taking.Steps.{IsFoldReady, task_of}
use Rattle.cs_exchange.proofs.TakingLemmas.Folded.{FoldsOn}
use Rattle.cs_exchange.proofs.taking.reading.fold_flight.Given as goal

-- the store was only read so far, and what the places that are left lead to, all lead to
abbrev pub invariant-loop-placed : goal.invariant-loop-placed
invariant-loop-placed g l = record {
  read : WasRead g.S.RowStore (ShowsSome l.fn.catalog (g.S.RowStore.contents l.fn.store)) l.fn.store l.store;
  within : IsWithin l.fn.catalog l.fn.settling → IsWithin l.fn.catalog l.settling;
  folds : g.S.RowStore.honest l.store → (seen : View) → ShowsRows l.fn.catalog (g.S.RowStore.contents l.fn.store) seen
      → (contents : Contents) (begun : ℕ) (view : View) → IsFoldReady l.fn.catalog l.fn.flight seen (map task_of l.fn.places) view
      → Settles l.fn.catalog contents begun l.fn.settling view
      → FoldsOn l.fn.catalog l.fn.flight seen contents begun l.fn.places (drop l.placed-index l.fn.places) view l.settling;
}
