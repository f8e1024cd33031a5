use Rattle.cs_world.proofs.Left.{found_is_step_of_hub}
use Rattle.cs_world.proofs.laws.found_is_step_of_hub.Goals as goal

pub returns : goal.returns
returns c = found_is_step_of_hub c.answers_fit.ensures
