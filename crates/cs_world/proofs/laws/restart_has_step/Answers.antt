use Rattle.cs_world.proofs.Exists.{restart_has_step}
use Rattle.cs_world.proofs.laws.restart_has_step.Goals as goal

pub returns : goal.returns
returns c = restart_has_step
