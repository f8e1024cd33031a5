use Rattle.std.proofs.Common.{◌≡◌, ◌↔◌, length}
use Rattle.cs_change.specs.Spelling.{marks_of}
use Rattle.cs_normal.proofs.comparing.same_shape.Given as goal

abbrev pub invariant-loop-byte : goal.invariant-loop-byte
invariant-loop-byte l = (marks_of l.marks ≡ l.key_marks) ↔ (marks_of l.fn.marks ≡ l.fn.key_marks)

abbrev pub decreases-loop-byte : goal.decreases-loop-byte
decreases-loop-byte l = length l.marks
