use Rattle.std.proofs.Common.{◌≡◌, map, take}
use Rattle.cs_change.specs.Spelling.{flag_byte}
use Rattle.cs_change.proofs.marks.marks.flag_bytes.Given as goal

abbrev pub invariant-loop-mark : goal.invariant-loop-mark
invariant-loop-mark l = l.bytes.items ≡ map flag_byte (take l.mark-index l.marks)
