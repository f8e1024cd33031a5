use Rattle.cs_node_lines.proofs.WorkingLemmas.OneLine.{one_line_run}
use Rattle.cs_node_lines.proofs.working.laws.one_line_run.Goals as goal

pub returns : goal.returns
returns c = one_line_run c.widened_are_tables.ensures c.one_line_step.ensures
