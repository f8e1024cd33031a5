use Rattle.std.proofs.Common.{◌≡◌, length}
use Rattle.std.specs.List.{list_all}
use Rattle.cs_value.specs.Catalog.{is_set}
use Rattle.cs_normal.specs.keyed.NormalForm.{marked_fields}
use Rattle.cs_tasks.proofs.lending.are_set.Given as goal

abbrev pub invariant-loop-mark : goal.invariant-loop-mark
invariant-loop-mark l = list_all is_set (marked_fields l.marks l.rest) ≡ list_all is_set (marked_fields l.fn.marks l.fn.fields)

abbrev pub decreases-loop-mark : goal.decreases-loop-mark
decreases-loop-mark l = length l.marks
