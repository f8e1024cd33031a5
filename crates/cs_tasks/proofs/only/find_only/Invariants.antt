use Rattle.std.proofs.Common.{take}
use Rattle.cs_tasks.specs.Tasks.{tasks}
use Rattle.cs_tasks.proofs.Onlies.{AreOf}
use Rattle.cs_tasks.proofs.only.find_only.Given as goal

abbrev pub invariant-loop-group : goal.invariant-loop-group
invariant-loop-group l = AreOf (tasks l.fn.catalog (take l.group-index l.fn.changeset)) l.found
