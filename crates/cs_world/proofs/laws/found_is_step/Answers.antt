use Rattle.cs_world.proofs.Left.{found_is_step}
use Rattle.cs_world.proofs.laws.found_is_step.Goals as goal

pub returns : goal.returns
returns c = found_is_step
