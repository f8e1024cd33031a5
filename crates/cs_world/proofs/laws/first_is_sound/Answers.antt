use Rattle.cs_world.proofs.Holds.{first_is_sound}
use Rattle.cs_world.proofs.laws.first_is_sound.Goals as goal

pub returns : goal.returns
returns c = first_is_sound c.empty_is_log.ensures c.first_stands.ensures
