use Rattle.std.proofs.Common.{◌≡◌, ◌++◌, length}
use Rattle.cs_change.specs.Then.{inverse_old_fields, inverse_new_fields}
use Rattle.cs_change.proofs.netting.record_columns.put_inverse_columns.Given as goal

abbrev pub invariant-loop-was : goal.invariant-loop-was
invariant-loop-was l = record {
  olds : l.olds ++ inverse_old_fields l.old l.new ≡ l.fn.olds ++ inverse_old_fields l.fn.old l.fn.new;
  news : l.news ++ inverse_new_fields l.old l.new ≡ l.fn.news ++ inverse_new_fields l.fn.old l.fn.new;
}

abbrev pub decreases-loop-was : goal.decreases-loop-was
decreases-loop-was l = length l.old
