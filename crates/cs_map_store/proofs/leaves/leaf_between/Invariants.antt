use Rattle.std.proofs.Common.{◌-◌, ◌≤◌, ◌<◌, length}
use Rattle.cs_map_store.specs.Leaves.{BeginsBy, BeginsBehind}
use Rattle.cs_map_store.proofs.leaves.leaf_between.Given as goal

abbrev pub invariant-loop-high : goal.invariant-loop-high
invariant-loop-high l = record {
  from : l.from ≤ l.low;
  order : l.low < l.high;
  within : l.high ≤ length l.leaves;
  begins : BeginsBy l.leaves l.low l.place;
  next : BeginsBehind l.leaves l.high l.place;
}

abbrev pub decreases-loop-high : goal.decreases-loop-high
decreases-loop-high l = l.high - l.low
