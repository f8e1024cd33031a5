-- Plans with the ids of their nodes: no definition that a public clause cites.
use Rattle.std.specs.Prelude.{◌≡◌, ℕ, List, Some, map, slice_get}
use Rattle.cs_nodes.specs.declared.plans.job.Job.{Job}
use Rattle.cs_nodes.specs.declared.plans.plan.Step.{Step}

-- these plans in their order, each with its place
pub record AreJobsOf {P : Type 0} (plans : List (List Step)) (jobs : List (Job P)) : Type 0 where
  pub plans_are : map (λ job. job.plan) jobs ≡ plans
  pub ids_are : (i : ℕ) (job : Job P) → slice_get jobs i ≡ Some job → job.id ≡ i
