use Rattle.std.proofs.Common.{◌≡◌, ◌++◌, ◌-◌, ◌≤◌, length, drop}
use Rattle.std.specs.Map.{keys_of}
use Rattle.cs_normal.specs.keyed.Prepared.{all_keyed, prepared}
use Rattle.cs_normal.proofs.keyed.gathering.push_keys.Given as goal

abbrev pub invariant-loop-at : goal.invariant-loop-at
invariant-loop-at l = record {
  within : l.at ≤ length l.changes;
  keys : l.keys ++ keys_of (prepared l.marks (drop l.at l.changes)) ≡ l.fn.keys ++ keys_of (prepared l.marks l.changes);
  whole : all_keyed l.marks (drop l.at l.changes) ≡ all_keyed l.marks l.changes;
}

abbrev pub decreases-loop-at : goal.decreases-loop-at
decreases-loop-at l = length l.changes - l.at
