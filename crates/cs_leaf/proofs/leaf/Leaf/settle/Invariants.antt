use Rattle.std.proofs.Common.{◌-◌, ◌≤◌, length}
use Rattle.cs_leaf.specs.Entries.{IsPlaceBetween}
use Rattle.cs_leaf.proofs.leaf.Leaf.settle.Given as goal

abbrev pub invariant-loop-low : goal.invariant-loop-low
invariant-loop-low l = record {
  from : l.from ≤ l.low;
  within : l.high ≤ length l.self;
  order : l.low ≤ l.high;
  between : IsPlaceBetween l.self l.from l.low l.high l.place;
}

abbrev pub decreases-loop-low : goal.decreases-loop-low
decreases-loop-low l = l.high - l.low
