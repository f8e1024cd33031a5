use Rattle.cs_node_lines.proofs.FollowingLemmas.OneFollow.{one_follow_run}
use Rattle.cs_node_lines.proofs.following.laws.one_follow_run.Goals as goal

pub returns : goal.returns
returns c = one_follow_run c.widened_are_tables.ensures c.one_follow_step.ensures
