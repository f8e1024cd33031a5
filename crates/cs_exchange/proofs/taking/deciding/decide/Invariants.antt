use Rattle.std.proofs.Common.{ℕ, List, map, drop}
use Rattle.cs_value.specs.Catalog.{AreTables}
use Rattle.cs_value.specs.declared.catalog.TableDef.{TableDef}
use Rattle.cs_normal.specs.State.{State}
use Rattle.cs_store.specs.Contents.{Contents}
use Rattle.cs_conflict.specs.declared.conflict.Conflict.{Conflict}
use Rattle.cs_pending.specs.Settling.{IsWithin, Settles}
use Rattle.cs_pending.specs.View.{View}
use Rattle.cs_exchange.specs.taking.Steps.{AreOn, AreSitesPlaced, IsReady, site_task}
use Rattle.cs_exchange.specs.taking.Takes.{StopsAt}
use Rattle.cs_exchange.proofs.TakingLemmas.Decided.{DecidesOn}
use Rattle.cs_exchange.proofs.taking.deciding.decide.Given as goal

-- what the places that are left lead to, all lead to. Where the picker stops at one of them, it first stops there
abbrev pub invariant-loop-site : goal.invariant-loop-site
invariant-loop-site g l = record {
  ready : g.P.Picker.is_ready l.picker;
  within : (tables : List TableDef) → AreSitesPlaced tables l.fn.sites → IsWithin tables l.fn.settling → IsWithin tables l.settling;
  decides : (tables : List TableDef) (contents : Contents) (begun : ℕ) (log own : State) (view : View) → AreTables tables
      → IsReady tables log own l.fn.sites view → Settles tables contents begun l.fn.settling view
      → DecidesOn g.P.Picker.picks tables contents begun log own l.fn.sites (drop l.site-index l.fn.sites) view l.fn.picker l.settling l.picker;
  stops : (log own : State) → AreOn log own l.fn.sites → (conflict : Conflict) (last : _)
      → StopsAt g.P.Picker.picks log own (map site_task (drop l.site-index l.fn.sites)) l.picker conflict last
      → StopsAt g.P.Picker.picks log own (map site_task l.fn.sites) l.fn.picker conflict last;
}
