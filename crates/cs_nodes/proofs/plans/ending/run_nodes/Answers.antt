use Rattle.cs_nodes.proofs.PlansLemmas.Ended.{of_catalog, of_spine}
use Rattle.cs_nodes.proofs.plans.ending.run_nodes.Goals as goal

pub returns-clause-spine : goal.returns-clause-spine
returns-clause-spine g c = of_spine c.args.catalog.now c.args.spine.now c.args.plans.items c.in_ok-ends.ends.items c.in_ok-ends.ensures

pub returns-clause-catalog : goal.returns-clause-catalog
returns-clause-catalog g c = of_catalog c.args.catalog.now c.args.spine.now c.args.plans.items c.in_ok-ends.ends.items c.in_ok-ends.ensures
