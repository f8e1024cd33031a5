use Rattle.cs_world.proofs.Wished.{wishes_pick_once}
use Rattle.cs_world.proofs.laws.wishes_pick_once.Goals as goal

pub returns : goal.returns
returns c = wishes_pick_once
