use Rattle.std.proofs.Common.{◌≡◌, ◌++◌, length}
use Rattle.cs_change.specs.Net.{new_record}
use Rattle.cs_change.proofs.netting.record_columns.put_new_columns.Given as goal

abbrev pub invariant-loop-old : goal.invariant-loop-old
invariant-loop-old l = l.news ++ new_record l.before l.after ≡ l.fn.news ++ new_record l.fn.before l.fn.after

abbrev pub decreases-loop-old : goal.decreases-loop-old
decreases-loop-old l = length l.before
