use Rattle.std.proofs.Common.{length}
use Rattle.cs_exchange.proofs.pushing.clearing.+clear_tables.Given as goal

-- proposed from what the function passes where it calls itself
abbrev pub decreases-clear_tables : goal.decreases-clear_tables
decreases-clear_tables l = length l.tables.now
