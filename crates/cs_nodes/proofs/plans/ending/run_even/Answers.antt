use Rattle.std.proofs.Common.{rules, ◌≡◌, Ok, length, get_or, subst, sym, ◌∙◌, arith}
use Rattle.std.specs.Prelude.{IfOk, Result}
use Rattle.std.specs.declared.alloc.AllocError.{AllocError}
use Rattle.std.proofs.lemmas.Option.{get_or_from_slice_get, slice_get_within}
use Rattle.cs_nodes.specs.plans.Ends.{IsEnd}
use Rattle.cs_nodes.specs.declared.plans.ending.NodeEnd.{NodeEnd}
use Rattle.cs_nodes.specs.declared.plans.job.Job.{Job}
use Rattle.cs_nodes.proofs.PlansLemmas.Ended.{are_ends}
use Rattle.cs_nodes.proofs.plans.ending.run_even.Goals as goal

pub returns : goal.returns
returns g c =
    let level : length c.in_ok-results.results.items ≡ length c.in_ok-jobs.jobs.items = omega (arith, c.in_ok-results.ensures.len) in
    are_ends c.args.catalog.now c.args.spine.now c.args.plans.items c.in_ok-jobs.jobs.items c.in_ok-results.results.items c.in_ok-all.all.items
    c.in_ok-jobs.ensures level c.in_ok-all.ensures (λ i job end here came.
    let e = c.in_ok-results.ensures.each i (Ok end) (slice_get_within c.in_ok-jobs.jobs.items i job here) in
    let same : e.1.job ≡ job = sym (e.1.job_is job) ∙ get_or_from_slice_get c.in_ok-jobs.jobs.items i job job here in
    let got : get_or c.in_ok-results.results.items i (Ok end) ≡ Ok end = get_or_from_slice_get c.in_ok-results.results.items i (Ok end) (Ok end) came in
    let whole : Result NodeEnd AllocError = Ok end in
    let said : IfOk whole (λ (one : NodeEnd). IsEnd c.args.catalog.now c.args.spine.now e.1.job.id e.1.job.plan one) =
    (let met = e.1.call.met in rw (← got) (search rules)) in
    subst (λ (j : Job g.row.P.Denot). IsEnd c.args.catalog.now c.args.spine.now j.id j.plan end) same said)
