use Rattle.std.proofs.Common.{length}
use Rattle.cs_opening.proofs.copying.copying.+copy_tables.Given as goal

abbrev pub decreases-copy_tables : goal.decreases-copy_tables
decreases-copy_tables g l = length l.tables.now
