use Rattle.cs_nodes.proofs.FollowingLemmas.KnownSome.{known_some}
use Rattle.cs_nodes.proofs.following.laws.known_pull_has_result.Goals as goal

pub returns : goal.returns
returns g c = known_some g.P.Picker.picks g.P.Picker.is_ready c.pulled_or_refused.ensures c.widened_are_tables.ensures
