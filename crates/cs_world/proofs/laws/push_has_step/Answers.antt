use Rattle.cs_world.proofs.Exists.{push_has_step}
use Rattle.cs_world.proofs.laws.push_has_step.Goals as goal

pub returns : goal.returns
returns c = push_has_step c.push_has_result.ensures
