use Rattle.cs_replica.proofs.Stood.{first_stands}
use Rattle.cs_replica.proofs.laws.first_stands.Goals as goal

pub returns : goal.returns
returns c = first_stands
