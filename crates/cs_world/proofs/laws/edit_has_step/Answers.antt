use Rattle.cs_world.proofs.Exists.{edit_has_step}
use Rattle.cs_world.proofs.laws.edit_has_step.Goals as goal

pub returns : goal.returns
returns c = edit_has_step c.edit_has_result.ensures
