use Rattle.std.proofs.Common.{◌≡◌, ◌++◌, ◌&&◌, length}
use Rattle.std.specs.Prelude.{not}
use Rattle.cs_change.specs.Columns.{is_blank}
use Rattle.cs_normal.specs.keyed.NormalForm.{normal_olds, normal_news}
use Rattle.cs_normal.proofs.keyed.one_form.put_normal_columns.Given as goal

abbrev pub invariant-loop-mark : goal.invariant-loop-mark
invariant-loop-mark l = record {
  olds : l.olds ++ normal_olds l.marks l.old l.new ≡ l.fn.olds ++ normal_olds l.fn.marks l.fn.old l.fn.new;
  news : l.news ++ normal_news l.marks l.old l.new ≡ l.fn.news ++ normal_news l.fn.marks l.fn.old l.fn.new;
  left : (not l.left && is_blank (normal_news l.marks l.old l.new)) ≡ is_blank (normal_news l.fn.marks l.fn.old l.fn.new);
}

abbrev pub decreases-loop-mark : goal.decreases-loop-mark
decreases-loop-mark l = length l.marks
