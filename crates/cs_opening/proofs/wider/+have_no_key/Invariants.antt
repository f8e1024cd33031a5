use Rattle.std.proofs.Common.{length}
use Rattle.cs_opening.proofs.wider.+have_no_key.Given as goal

abbrev pub decreases-have_no_key : goal.decreases-have_no_key
decreases-have_no_key l = length l.marks.now
