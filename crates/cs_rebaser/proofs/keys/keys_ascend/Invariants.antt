use Rattle.std.proofs.Common.{◌≡◌, length}
use Rattle.cs_order.specs.Order.{keys_behind}
use Rattle.cs_order.specs.Steps.Rising.{ascend, ascend_from}
use Rattle.cs_rebaser.proofs.keys.keys_ascend.Given as goal

abbrev pub invariant-loop-next : goal.invariant-loop-next
invariant-loop-next l = ascend_from l.last (keys_behind l.rest) ≡ ascend (keys_behind l.fn.keys)

abbrev pub decreases-loop-next : goal.decreases-loop-next
decreases-loop-next l = length l.rest
