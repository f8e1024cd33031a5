use Rattle.cs_nodes.proofs.FollowingLemmas.Meeting.{equal_where_met}
use Rattle.cs_nodes.proofs.following.laws.equal_where_met.Goals as goal

pub returns : goal.returns
returns c = equal_where_met c.equal_at_rest.ensures
