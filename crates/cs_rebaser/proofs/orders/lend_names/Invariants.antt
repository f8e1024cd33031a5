use Rattle.std.proofs.Common.{◌≡◌, take}
use Rattle.cs_order.specs.Order.{keys_behind}
use Rattle.cs_rebaser.specs.Steps.{names_in}
use Rattle.cs_rebaser.proofs.orders.lend_names.Given as goal

abbrev pub invariant-loop-group : goal.invariant-loop-group
invariant-loop-group l = keys_behind l.names.items ≡ names_in (take l.group-index l.groups)
