use Rattle.std.proofs.Common.{length}
use Rattle.cs_opening.proofs.wider.+have_behind.Given as goal

abbrev pub decreases-have_behind : goal.decreases-have_behind
decreases-have_behind l = length l.marks.now
