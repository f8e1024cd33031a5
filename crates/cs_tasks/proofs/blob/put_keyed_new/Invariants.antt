use Rattle.std.proofs.Common.{◌≡◌, ◌++◌, length}
use Rattle.cs_change.specs.Spelling.{marks_of}
use Rattle.cs_tasks.specs.Blob.{keyed_new}
use Rattle.cs_tasks.proofs.blob.put_keyed_new.Given as goal

abbrev pub invariant-loop-mark : goal.invariant-loop-mark
invariant-loop-mark l = l.out ++ keyed_new (marks_of l.marks) l.old l.new ≡ l.fn.out ++ keyed_new (marks_of l.fn.marks) l.fn.old l.fn.new

abbrev pub decreases-loop-mark : goal.decreases-loop-mark
decreases-loop-mark l = length l.marks
