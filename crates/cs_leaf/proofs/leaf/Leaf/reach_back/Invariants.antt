use Rattle.std.proofs.Common.{◌≡◌, ◌<◌, false, length}
use Rattle.std.specs.Ordering.{is_lt}
use Rattle.cs_store.specs.Contents.{place_cmp}
use Rattle.cs_leaf.specs.Entries.{nth}
use Rattle.cs_leaf.proofs.leaf.Leaf.reach_back.Given as goal

abbrev pub invariant-loop-step : goal.invariant-loop-step
invariant-loop-step l = record {
  within : l.high < length l.self;
  some : 0 < l.step;
  behind : is_lt (place_cmp (nth l.self l.high).0 l.place) ≡ false;
}

abbrev pub decreases-loop-step : goal.decreases-loop-step
decreases-loop-step l = l.high
