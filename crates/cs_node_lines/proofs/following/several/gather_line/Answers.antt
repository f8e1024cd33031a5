use Rattle.cs_node_lines.proofs.FollowingLemmas.Gathering.{edits_none}
use Rattle.cs_node_lines.proofs.following.several.gather_line.Goals as goal

pub returns-in-Unread : goal.returns-in-Unread
returns-in-Unread c = λ lines is. edits_none c.args.catalog.now lines c.args.line.now (rw c.in-Unread.is at is)
