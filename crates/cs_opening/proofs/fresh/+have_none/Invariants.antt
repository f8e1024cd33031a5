use Rattle.std.proofs.Common.{length}
use Rattle.cs_opening.proofs.fresh.+have_none.Given as goal

abbrev pub decreases-have_none : goal.decreases-have_none
decreases-have_none g l = length l.names.now
