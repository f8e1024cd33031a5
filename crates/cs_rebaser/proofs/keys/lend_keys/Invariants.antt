use Rattle.std.proofs.Common.{◌≡◌, map, take}
use Rattle.cs_order.specs.Order.{keys_behind}
use Rattle.cs_rebaser.specs.Rebased.{entry_key}
use Rattle.cs_rebaser.proofs.keys.lend_keys.Given as goal

abbrev pub invariant-loop-entry : goal.invariant-loop-entry
invariant-loop-entry l = keys_behind l.keys.items ≡ map (entry_key l.fn.marks) (take l.entry-index l.entries)
