use Rattle.std.proofs.Common.{◌≡◌, ◌++◌, map, drop}
use Rattle.cs_normal.specs.State.{State}
use Rattle.cs_pending.specs.Shows.{ShowsRows, ShowsSome}
use Rattle.cs_pending.specs.Storing.{WasRead}
use Rattle.cs_pending.specs.View.{View}
use Rattle.cs_pending.specs.position.Shows.{base}
use Rattle.cs_exchange.specs.taking.Steps.{AreOn, AreSitesPlaced, HasBad, site_task, task_of}
use Rattle.cs_exchange.proofs.taking.reading.survey.Given as goal

-- the store was only read so far, and the places before have their sites. A bad change of those that are left is one of all
abbrev pub invariant-loop-placed : goal.invariant-loop-placed
invariant-loop-placed g l = record {
  read : WasRead g.S.RowStore (ShowsSome l.fn.catalog (g.S.RowStore.contents l.fn.store)) l.fn.store l.store;
  tasks : map site_task l.sites.items ++ map task_of (drop l.placed-index l.fn.places) ≡ map site_task l.fn.sites.items ++ map task_of l.fn.places;
  placed : AreSitesPlaced l.fn.catalog l.fn.sites.items → AreSitesPlaced l.fn.catalog l.sites.items;
  on : g.S.RowStore.honest l.store → (seen : View) → ShowsRows l.fn.catalog (g.S.RowStore.contents l.fn.store) seen
      → AreOn (base l.fn.flight seen) seen.tables l.fn.sites.items → AreOn (base l.fn.flight seen) seen.tables l.sites.items;
  bad : (log : State) → HasBad log (map task_of (drop l.placed-index l.fn.places)) → HasBad log (map task_of l.fn.places);
}
