use Rattle.std.proofs.Common.{length}
use Rattle.cs_opening.proofs.wider.+are_wider.Given as goal

abbrev pub decreases-are_wider : goal.decreases-are_wider
decreases-are_wider l = length l.handed.now
