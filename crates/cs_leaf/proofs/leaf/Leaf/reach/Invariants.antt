use Rattle.std.proofs.Common.{◌≡◌, ◌-◌, ◌≤◌, ◌⊎◌, true, length}
use Rattle.std.specs.Ordering.{is_lt}
use Rattle.cs_store.specs.Contents.{place_cmp}
use Rattle.cs_leaf.specs.Entries.{nth}
use Rattle.cs_leaf.proofs.leaf.Leaf.reach.Given as goal

abbrev pub invariant-loop-high : goal.invariant-loop-high
invariant-loop-high l = record {
  from : l.from ≤ l.low;
  order : l.low ≤ l.high;
  within : l.high ≤ length l.self;
  below : (l.low ≡ l.from) ⊎ (is_lt (place_cmp (nth l.self (l.low - 1)).0 l.place) ≡ true);
}

abbrev pub decreases-loop-high : goal.decreases-loop-high
decreases-loop-high l = length l.self - l.low
