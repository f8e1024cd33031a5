use Rattle.std.proofs.Common.{take}
use Rattle.cs_rebaser.specs.Steps.{AreOrders}
use Rattle.cs_rebaser.proofs.orders.group_orders.Given as goal

abbrev pub invariant-loop-group : goal.invariant-loop-group
invariant-loop-group l = AreOrders (take l.group-index l.groups) l.orders.items
