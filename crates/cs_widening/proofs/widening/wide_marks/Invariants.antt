use Rattle.std.proofs.Common.{◌≡◌, ◌++◌, false, replicate}
use Rattle.cs_widening.proofs.widening.wide_marks.Given as goal

abbrev pub invariant-loop-added : goal.invariant-loop-added
invariant-loop-added l = l.wide.items ≡ l.marks ++ replicate l.added false
