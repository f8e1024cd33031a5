use Rattle.cs_world.proofs.Coming.{one_run}
use Rattle.cs_world.proofs.laws.one_run.Goals as goal

pub returns : goal.returns
returns c = one_run c.one_step.ensures c.steps_are_sound.ensures
