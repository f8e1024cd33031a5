use Rattle.std.proofs.Common.{◌≡◌, [], take}
use Rattle.cs_normal.specs.keyed.Prepared.{kept}
use Rattle.cs_normalising.specs.Steps.Lent.{ordered_entries}
use Rattle.cs_normalising.proofs.lent_table.is_left.Given as goal

abbrev pub invariant-loop-at : goal.invariant-loop-at
invariant-loop-at l = kept (take l.at (ordered_entries l.fn.marks l.fn.lent)) ≡ []
