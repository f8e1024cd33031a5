use Rattle.cs_node_lines.proofs.FollowingLemmas.OneFollow.{one_follow_step}
use Rattle.cs_node_lines.proofs.following.laws.one_follow_step.Goals as goal

pub returns : goal.returns
returns c =
    one_follow_step (record {
      line = c.one_line_step.ensures;
      edited = c.one_edited_all.ensures;
      rows = c.one_table_of_rows.ensures;
      answer = c.one_told_answer.ensures;
      contents = c.one_contents.ensures.contents;
      views = c.one_view.ensures.one;
      answered = c.one_answered.ensures;
      pending = c.one_pending.ensures;
    })
