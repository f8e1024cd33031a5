use Rattle.std.proofs.Common.{ap, ◌∙◌}
use Rattle.cs_map_store.specs.Slots.{misreads_of}
use Rattle.cs_nodes.proofs.PlansLemmas.Ended.{ended}
use Rattle.cs_nodes.proofs.plans.ending.run_job.Goals as goal

pub returns : goal.returns
returns g c =
    let new = c.in-Ok.ensures.fresh tt in
    ended c.args.catalog.now c.args.spine.now c.args.job.id c.args.job.plan (record { node = c.run_plan.new.node; steps = c.in_ok-steps.steps }) c.in-Ok.node
    c.in-Ok.ensures.catalog c.in-Ok.ensures.pass.0 c.in-Ok.ensures.pass.1 new.0 new.1 (c.in-Ok.ensures.opens.as_read tt tt ∙ ap misreads_of c.new.ensures) c.in_ok-steps.ensures
