use Rattle.std.proofs.Common.{◌≡◌, ◌+◌, ◌++◌, ◌≤◌, ℕ, Some, length, map, slice_get, vec_capacity, vec_len}
use Rattle.std.specs.Vec.Iter.{into_iter_items}
use Rattle.cs_nodes.specs.declared.plans.job.Job.{Job}
use Rattle.cs_nodes.proofs.plans.pairing.make_jobs.Given as goal

abbrev pub invariant-plans : goal.invariant-plans
invariant-plans g l = record {
  plans_are : map (λ job. job.plan) l.jobs.items ++ into_iter_items l.plan-iterator ≡ l.fn.plans.items;
  ids_are : (i : ℕ) (job : Job g.row.P.Denot) → slice_get l.jobs.items i ≡ Some job → job.id ≡ i;
  even : length (into_iter_items l.ports) ≡ length (into_iter_items l.plan-iterator);
  room : vec_len l.jobs + length (into_iter_items l.plan-iterator) ≤ vec_capacity l.jobs;
}
