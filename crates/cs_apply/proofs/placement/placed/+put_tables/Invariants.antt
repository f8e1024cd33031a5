use Rattle.std.proofs.Common.{length}
use Rattle.cs_apply.proofs.placement.placed.+put_tables.Given as goal

abbrev pub decreases-put_tables : goal.decreases-put_tables
decreases-put_tables l = length l.changes.now
