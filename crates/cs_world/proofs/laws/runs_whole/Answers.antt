use Rattle.cs_world.proofs.StopsWhole.{runs_whole}
use Rattle.cs_world.proofs.laws.runs_whole.Goals as goal

pub returns : goal.returns
returns c = runs_whole
