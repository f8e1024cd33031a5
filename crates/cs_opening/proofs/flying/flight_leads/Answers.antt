use Rattle.std.proofs.Common.{List, subst, sym}
use Rattle.std.specs.List.{AllByRecursion}
use Rattle.cs_normal.specs.declared.normal.TableChanges.{TableChanges}
use Rattle.cs_pending.specs.NormalTasks.{IsOfOne, of_one}
use Rattle.cs_opening.proofs.flying.flight_leads.Goals as goal

pub tables_lead_before-requires : goal.tables_lead_before-requires
tables_lead_before-requires g c =
    subst (λ (cs : List TableChanges). AllByRecursion (IsOfOne c.args.catalog.now) cs) (sym c.tables.ensures.same) (of_one c.args.catalog.now c.in-Some.changes (c.fits.ensures.0 c.if-not-fits.false))
