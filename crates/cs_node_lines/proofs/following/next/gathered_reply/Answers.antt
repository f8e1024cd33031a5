use Rattle.cs_node_lines.specs.working.Replies.{reply_text}
use Rattle.cs_node_lines.proofs.FollowingLemmas.Several.{gathered_made}
use Rattle.cs_node_lines.proofs.following.next.gathered_reply.Goals as goal

pub returns-in-Edits : goal.returns-in-Edits
returns-in-Edits g c = λ lines is.
    gathered_made g.S.RowStore c.args.catalog.now lines c.in-Edits.edits.items (reply_text c.edits_reply.result) c.args.replica.now c.edits_reply.new.replica
    (rw c.in-Edits.is at is) (rw c.as_slice.ensures.value at c.edits_reply.ensures)
