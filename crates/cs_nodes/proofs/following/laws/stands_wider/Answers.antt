use Rattle.cs_nodes.proofs.FollowingLemmas.Stood.{stands_longer}
use Rattle.cs_nodes.proofs.following.laws.stands_wider.Goals as goal

pub returns : goal.returns
returns g c known all held begins = stands_longer g.S.RowStore c.stands_longer.ensures known begins.0 all held begins.1
