use Rattle.cs_node_lines.proofs.FollowingLemmas.Several.{edits_refused}
use Rattle.cs_node_lines.specs.working.Replies.{reply_text}
use Rattle.cs_node_lines.proofs.following.several.edits_reply.Goals as goal

pub returns-in-Err-Refused : goal.returns-in-Err-Refused
returns-in-Err-Refused g c =
    edits_refused g.S.RowStore c.args.edits.now c.in-Err-Refused.at c.in-Err-Refused.fault (reply_text c.refused_at.result) c.args.replica.now c.edit_all.new.self c.refused_at.ensures
    (rw c.in-Err-Refused.field-0-is at c.in-Err-Refused.ensures.turned) (rw c.in-Err-Refused.field-0-is at c.in-Err-Refused.ensures.counts)
