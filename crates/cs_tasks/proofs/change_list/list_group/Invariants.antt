use Rattle.std.proofs.Common.{◌≡◌, ◌++◌, take}
use Rattle.cs_tasks.proofs.change_list.list_group.Given as goal

abbrev pub invariant-loop-change : goal.invariant-loop-change
invariant-loop-change l = l.changes.items ≡ l.fn.changes.items ++ take l.change-index l.fn.group.changes
