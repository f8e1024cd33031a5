use Rattle.cs_lines.proofs.EndedLemmas.{stays_ended}
use Rattle.cs_lines.proofs.line.read_ended_line.Goals as goal

pub returns-in-Err-clause-part : goal.returns-in-Err-clause-part
returns-in-Err-clause-part g c = stays_ended _ _ c.in-Err.ensures.part
