use Rattle.std.proofs.Common.{◌≡◌, take}
use Rattle.cs_order.specs.Order.{keys_behind}
use Rattle.cs_normalising.specs.Steps.Named.{names_of}
use Rattle.cs_normalising.proofs.groups.lend_names.Given as goal

abbrev pub invariant-loop-group : goal.invariant-loop-group
invariant-loop-group l = keys_behind l.names.items ≡ names_of (take l.group-index l.groups)
