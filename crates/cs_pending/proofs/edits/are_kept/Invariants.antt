use Rattle.std.proofs.Common.{◌≡◌, length}
use Rattle.cs_pending.specs.Edits.{keeps_key}
use Rattle.cs_pending.proofs.edits.are_kept.Given as goal

abbrev pub invariant-loop-mark : goal.invariant-loop-mark
invariant-loop-mark l = keeps_key l.rest l.behind ≡ keeps_key l.fn.marks l.fn.fields

abbrev pub decreases-loop-mark : goal.decreases-loop-mark
decreases-loop-mark l = length l.rest
