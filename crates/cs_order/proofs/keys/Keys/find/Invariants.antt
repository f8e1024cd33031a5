use Rattle.std.proofs.Common.{◌-◌, ◌≤◌, length}
use Rattle.cs_order.proofs.Halves.{AreAbove, AreBelow}
use Rattle.cs_order.proofs.keys.Keys.find.Given as goal

abbrev pub invariant-loop-low : goal.invariant-loop-low
invariant-loop-low l = record {
  within : l.low ≤ l.high;
  high : l.high ≤ length l.self;
  below : AreBelow l.self l.key l.low;
  above : AreAbove l.self l.key l.high;
}

abbrev pub decreases-loop-low : goal.decreases-loop-low
decreases-loop-low l = l.high - l.low
