use Rattle.std.proofs.Common.{◌<◌, ◌≤◌, ◌-◌}
use Rattle.std.specs.List.{slice_range}
use Rattle.cs_leaf.specs.Entries.{IsRun}
use Rattle.cs_leaf.proofs.leaf.run_from.Given as goal

abbrev pub invariant-loop-next : goal.invariant-loop-next
invariant-loop-next l = (l.from < l.next) × (l.next ≤ l.to) × IsRun l.first.key (slice_range l.spots l.from l.next) l.end

abbrev pub decreases-loop-next : goal.decreases-loop-next
decreases-loop-next l = l.to - l.next
