use Rattle.cs_world.proofs.Exists.{order_has_step}
use Rattle.cs_world.proofs.laws.order_has_step.Goals as goal

pub returns : goal.returns
returns c = order_has_step
