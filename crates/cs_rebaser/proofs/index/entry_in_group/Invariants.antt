use Rattle.std.proofs.Common.{◌-◌, ◌<◌, ◌≤◌, length}
use Rattle.cs_rebaser.specs.Steps.{entry_keys, ordered_entries}
use Rattle.cs_rebaser.proofs.Halves.{AreBelow, IsAbove}
use Rattle.cs_rebaser.proofs.index.entry_in_group.Given as goal

abbrev pub invariant-loop-low : goal.invariant-loop-low
invariant-loop-low l =
    let entries = ordered_entries (entry_keys l.fn.group) l.fn.group.entries l.fn.order.order.items in
    record {
      within : l.low ≤ l.high;
      high : l.high ≤ length l.fn.order.order.items;
      at : l.low < l.high → (l.low ≤ l.at) × (l.at < l.high);
      below : AreBelow entries l.fn.key l.low;
      above : IsAbove entries l.fn.key l.high;
    }

abbrev pub decreases-loop-low : goal.decreases-loop-low
decreases-loop-low l = l.high - l.low
