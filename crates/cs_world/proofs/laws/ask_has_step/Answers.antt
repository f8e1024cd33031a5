use Rattle.cs_world.proofs.Exists.{ask_has_step, catch_has_step}
use Rattle.cs_world.proofs.laws.ask_has_step.Goals as goal

pub returns : goal.returns
returns c = record { pull = ask_has_step; catch = catch_has_step }
