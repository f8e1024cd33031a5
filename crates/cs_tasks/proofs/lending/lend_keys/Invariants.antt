use Rattle.std.proofs.Common.{◌≡◌, true, map, take}
use Rattle.std.specs.List.{list_all}
use Rattle.cs_order.specs.Order.{keys_behind}
use Rattle.cs_normal.specs.keyed.NormalForm.{change_bytes, has_key}
use Rattle.cs_tasks.proofs.lending.lend_keys.Given as goal

abbrev pub invariant-loop-change : goal.invariant-loop-change
invariant-loop-change l =
    (keys_behind l.keys.items ≡ map (change_bytes l.fn.marks) (take l.change-index l.fn.changes))
    × (list_all (has_key l.fn.marks) (take l.change-index l.fn.changes) ≡ true)
