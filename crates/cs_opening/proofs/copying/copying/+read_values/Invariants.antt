use Rattle.std.proofs.Common.{length}
use Rattle.cs_opening.proofs.copying.copying.+read_values.Given as goal

abbrev pub decreases-read_values : goal.decreases-read_values
decreases-read_values g l = length l.names.now
