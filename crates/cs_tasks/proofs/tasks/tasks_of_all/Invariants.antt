use Rattle.std.proofs.Common.{◌≡◌, ◌≤◌, take}
use Rattle.cs_tasks.specs.Tasks.{tasks, skipped}
use Rattle.cs_tasks.specs.Found.{AreGathered}
use Rattle.cs_tasks.proofs.tasks.tasks_of_all.Given as goal

abbrev pub invariant-loop-group : goal.invariant-loop-group
invariant-loop-group l =
    AreGathered l.tasks (tasks l.fn.catalog (take l.group-index l.fn.changeset))
    × (l.tasks.skipped ≡ skipped l.fn.catalog (take l.group-index l.fn.changeset))
    × (l.tasks.skipped ≤ l.group-index)
