use Rattle.std.proofs.Common.{◌≡◌, ◌++◌, ◌&&◌, length}
use Rattle.std.specs.Prelude.{not}
use Rattle.cs_change.specs.Columns.{is_blank}
use Rattle.cs_change.specs.Then.{then_old_fields, then_new_fields}
use Rattle.cs_change.proofs.netting.record_columns.put_then_columns.Given as goal

abbrev pub invariant-loop-o1 : goal.invariant-loop-o1
invariant-loop-o1 l = record {
  olds : l.olds ++ then_old_fields l.old_earlier l.new_earlier l.old_later l.new_later ≡ l.fn.olds ++ then_old_fields l.fn.old_earlier l.fn.new_earlier l.fn.old_later l.fn.new_later;
  news : l.news ++ then_new_fields l.old_earlier l.new_earlier l.old_later l.new_later ≡ l.fn.news ++ then_new_fields l.fn.old_earlier l.fn.new_earlier l.fn.old_later l.fn.new_later;
  left : (not l.left && is_blank (then_new_fields l.old_earlier l.new_earlier l.old_later l.new_later)) ≡ is_blank (then_new_fields l.fn.old_earlier l.fn.new_earlier l.fn.old_later l.fn.new_later);
}

abbrev pub decreases-loop-o1 : goal.decreases-loop-o1
decreases-loop-o1 l = length l.old_earlier
