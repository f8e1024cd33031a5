use Rattle.cs_hub.specs.catching.Steps.{IsRunSoFar}
use Rattle.cs_hub.proofs.catching.merging.take_one_by_one.Given as goal

-- so far the first ones are together this changeset, and short enough, and each front of them is
abbrev pub invariant-loop-at : goal.invariant-loop-at
invariant-loop-at l = IsRunSoFar l.catalog l.list l.at l.joined
