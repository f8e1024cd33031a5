use Rattle.std.proofs.Common.{length}
use Rattle.cs_normal.proofs.KeyedLemmas.Lent.{IsPassed}
use Rattle.cs_normal.proofs.keyed.lending.lend_record_key.Given as goal

abbrev pub invariant-loop-mark : goal.invariant-loop-mark
invariant-loop-mark l = IsPassed l.fn.marks l.fn.fields l.marks l.rest

abbrev pub decreases-loop-mark : goal.decreases-loop-mark
decreases-loop-mark l = length l.marks
