use Rattle.std.proofs.Common.{◌≡◌, ◌≤◌, take}
use Rattle.cs_tasks.specs.Tasks.{skipped}
use Rattle.cs_tasks.proofs.only.count_skipped.Given as goal

abbrev pub invariant-loop-group : goal.invariant-loop-group
invariant-loop-group l =
    (l.skipped ≡ skipped l.fn.catalog (take l.group-index l.fn.changeset))
    × (l.skipped ≤ l.group-index)
