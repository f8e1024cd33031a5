use Rattle.cs_world.proofs.Exists.{resend_has_step}
use Rattle.cs_world.proofs.laws.resend_has_step.Goals as goal

pub returns : goal.returns
returns c = resend_has_step
