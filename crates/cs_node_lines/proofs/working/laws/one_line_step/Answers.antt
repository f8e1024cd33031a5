use Rattle.cs_node_lines.proofs.WorkingLemmas.OneLine.{one_line_step}
use Rattle.cs_node_lines.proofs.working.laws.one_line_step.Goals as goal

pub returns : goal.returns
returns c =
    one_line_step (record {
      edited = c.one_edited.ensures;
      pushed = c.one_pushed.ensures;
      resent = c.one_resent.ensures;
      heard = c.one_heard.ensures;
      rows = c.one_table_of_rows.ensures;
      answer = c.one_told_answer.ensures;
    })
