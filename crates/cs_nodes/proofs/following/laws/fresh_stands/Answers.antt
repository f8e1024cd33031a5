use Rattle.cs_nodes.proofs.FollowingLemmas.Meeting.{fresh_stands}
use Rattle.cs_nodes.proofs.following.laws.fresh_stands.Goals as goal

pub returns : goal.returns
returns c = fresh_stands c.empty_is_log.ensures c.first_stands.ensures
