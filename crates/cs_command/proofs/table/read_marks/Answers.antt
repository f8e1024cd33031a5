use Rattle.std.proofs.Common.{rules}
use Rattle.cs_command.proofs.WordLemmas.{no_marks}
use Rattle.cs_command.proofs.table.read_marks.Goals as goal

pub returns-in_default : goal.returns-in_default
returns-in_default c = no_marks _ _ _ c.loop-digit-test.true (search rules) c.in_default.ensures
