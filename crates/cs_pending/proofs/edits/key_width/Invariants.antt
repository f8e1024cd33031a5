use Rattle.std.proofs.Common.{◌≡◌, ◌≤◌, ◌+◌, length}
use Rattle.cs_pending.specs.Edits.{key_width}
use Rattle.cs_pending.proofs.edits.key_width.Given as goal

abbrev pub invariant-loop-mark : goal.invariant-loop-mark
invariant-loop-mark l = (l.width + key_width l.rest ≡ key_width l.fn.marks) × (l.width + length l.rest ≤ length l.fn.marks)

abbrev pub decreases-loop-mark : goal.decreases-loop-mark
decreases-loop-mark l = length l.rest
