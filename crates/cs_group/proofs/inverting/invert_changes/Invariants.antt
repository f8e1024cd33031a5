use Rattle.std.proofs.Common.{◌≡◌, ◌++◌, drop, map, take}
use Rattle.std.specs.Map.{keys_of, values_of}
use Rattle.cs_group.specs.Inverse.{inverse_change}
use Rattle.cs_group.proofs.inverting.invert_changes.Given as goal

abbrev pub invariant-loop-at : goal.invariant-loop-at
invariant-loop-at l = record {
  keys : keys_of l.changes ≡ keys_of l.fn.changes;
  so_far : values_of l.changes ≡ map inverse_change (take l.at (values_of l.fn.changes)) ++ drop l.at (values_of l.fn.changes);
}
