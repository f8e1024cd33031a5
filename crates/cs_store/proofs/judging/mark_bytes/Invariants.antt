use Rattle.std.proofs.Common.{◌≡◌, take}
use Rattle.cs_change.specs.Spelling.{marks_of}
use Rattle.cs_store.proofs.judging.mark_bytes.Given as goal

abbrev pub invariant-loop-mark : goal.invariant-loop-mark
invariant-loop-mark l = marks_of l.bytes.items ≡ take l.mark-index l.marks
