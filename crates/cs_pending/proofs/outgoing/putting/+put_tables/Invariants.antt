use Rattle.std.proofs.Common.{length}
use Rattle.cs_pending.proofs.outgoing.putting.+put_tables.Given as goal

-- proposed from what the function passes where it calls itself
abbrev pub decreases-put_tables : goal.decreases-put_tables
decreases-put_tables g l = length l.tables.now
