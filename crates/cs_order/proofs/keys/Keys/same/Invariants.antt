use Rattle.std.proofs.Common.{◌≡◌, ◌-◌, ◌≤◌, length, take}
use Rattle.cs_order.proofs.keys.Keys.same.Given as goal

abbrev pub invariant-loop-at : goal.invariant-loop-at
invariant-loop-at l = record {
  within : l.at ≤ length l.self;
  so_far : take l.at l.self ≡ take l.at l.other;
}

abbrev pub decreases-loop-at : goal.decreases-loop-at
decreases-loop-at l = length l.self - l.at
