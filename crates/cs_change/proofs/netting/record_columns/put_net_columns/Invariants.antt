use Rattle.std.proofs.Common.{◌≡◌, ◌++◌, length}
use Rattle.cs_change.specs.Net.{old_record, new_record}
use Rattle.cs_change.proofs.netting.record_columns.put_net_columns.Given as goal

abbrev pub invariant-loop-in_key : goal.invariant-loop-in_key
invariant-loop-in_key l = record {
  olds : l.olds ++ old_record l.marks l.before l.after ≡ l.fn.olds ++ old_record l.fn.marks l.fn.before l.fn.after;
  news : l.news ++ new_record l.before l.after ≡ l.fn.news ++ new_record l.fn.before l.fn.after;
}

abbrev pub decreases-loop-in_key : goal.decreases-loop-in_key
decreases-loop-in_key l = length l.before
