use Rattle.std.proofs.Common.{length}
use Rattle.cs_opening.proofs.judging.+count_tables.Given as goal

abbrev pub decreases-count_tables : goal.decreases-count_tables
decreases-count_tables g l = length l.tables.now
