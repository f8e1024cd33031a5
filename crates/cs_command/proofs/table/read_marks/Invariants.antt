-- The marks so far are spelled by the digits so far.
use Rattle.std.proofs.Common.{◌≡◌, map, take}
use Rattle.cs_command.specs.TableWord.{mark_digit}
use Rattle.cs_command.proofs.table.read_marks.Given as goal

abbrev pub invariant-loop-digit : goal.invariant-loop-digit
invariant-loop-digit l = map mark_digit l.marks.items ≡ take l.digit-index l.digits
