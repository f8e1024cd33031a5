use Rattle.std.proofs.Common.{◌≡◌, length}
use Rattle.std.specs.Prelude.{not, ◌||◌}
use Rattle.cs_change.specs.Columns.{is_blank}
use Rattle.cs_normal.specs.keyed.Steps.Forms.{normal_columns}
use Rattle.cs_normal.proofs.keyed.one_form.are_normal.Given as goal

abbrev pub invariant-loop-mark : goal.invariant-loop-mark
invariant-loop-mark l = record {
  columns : normal_columns l.marks l.old l.new ≡ normal_columns l.fn.marks l.fn.old l.fn.new;
  left : (l.left || not (is_blank l.new)) ≡ not (is_blank l.fn.new);
}

abbrev pub decreases-loop-mark : goal.decreases-loop-mark
decreases-loop-mark l = length l.marks
