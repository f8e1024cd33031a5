use Rattle.std.proofs.Common.{◌≡◌, take}
use Rattle.cs_order.specs.Order.{keys_behind}
use Rattle.cs_group.specs.Steps.Numbering.{numbered_behind, numbered_names}
use Rattle.cs_group.proofs.numbered.lend_names.Given as goal

abbrev pub invariant-loop-group : goal.invariant-loop-group
invariant-loop-group l = keys_behind l.names.items ≡ numbered_names (numbered_behind (take l.group-index l.groups))
