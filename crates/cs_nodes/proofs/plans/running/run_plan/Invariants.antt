use Rattle.std.proofs.Common.{◌≡◌, ◌+◌, ◌≤◌, length, vec_capacity, vec_len}
use Rattle.cs_nodes.proofs.PlansLemmas.Onward.{Running}
use Rattle.cs_nodes.proofs.plans.running.run_plan.Given as goal

abbrev pub invariant-calls : goal.invariant-calls
invariant-calls g l = record {
  spine : l.node.pass.spine ≡ l.spine;
  running : Running l.fn.node l.fn.plan l.node l.rest l.steps.items;
  room : vec_len l.steps + length l.rest ≤ vec_capacity l.steps;
}

abbrev pub decreases-calls : goal.decreases-calls
decreases-calls g l = length l.rest
