use Rattle.cs_node_lines.proofs.FollowingLemmas.Heard.{seen_is_heard}
use Rattle.cs_node_lines.proofs.following.laws.seen_is_heard.Goals as goal

pub returns : goal.returns
returns c = seen_is_heard
