use Rattle.std.proofs.Common.{◌+◌, ◌≤◌, ◌∷◌, List, length, subst, vec_capacity, vec_len, ◌∙◌, arith}
use Rattle.cs_nodes.specs.declared.plans.plan.Step.{Step}
use Rattle.cs_nodes.proofs.PlansLemmas.Onward.{Running, ran, running_on}
use Rattle.cs_nodes.proofs.plans.running.run_plan.Goals as goal

pub calls-preserved : goal.calls-preserved
calls-preserved g c =
    let so = subst (λ (r : List Step). Running c.args.node.now c.args.plan.now c.calls.node r c.calls.steps.items) c.in-Some.ensures.cases.0 c.calls.invariant.running in
    let room : vec_len c.calls.steps + length (c.in-Some.step.now ∷ c.in-Some.more.now) ≤ vec_capacity c.calls.steps =
    subst (λ (r : List Step). vec_len c.calls.steps + length r ≤ vec_capacity c.calls.steps) c.in-Some.ensures.cases.0 c.calls.invariant.room in
    record {
      spine = c.run_step-one.ensures.spine ∙ c.calls.invariant.spine;
      running = running_on c.args.node.now c.args.plan.now c.calls.node c.run_step-one.new.node c.in-Some.step.now c.in-Some.more.now c.calls.steps.items c.push_reserved.new.self.items c.run_step-one.result so c.run_step-one.ensures c.push_reserved.ensures.items;
      room = omega (arith, room, c.push_reserved.ensures.len, c.push_reserved.ensures.capacity);
    }

pub returns : goal.returns
returns g c = ran c.args.node.now c.args.plan.now c.calls.node c.calls.rest.now c.calls.steps.items c.in_default.ensures.cases c.calls.invariant.running
