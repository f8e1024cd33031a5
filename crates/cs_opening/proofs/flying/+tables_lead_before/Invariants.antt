use Rattle.std.proofs.Common.{length}
use Rattle.cs_opening.proofs.flying.+tables_lead_before.Given as goal

abbrev pub decreases-tables_lead_before : goal.decreases-tables_lead_before
decreases-tables_lead_before g l = length l.changes.now
