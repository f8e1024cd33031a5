use Rattle.cs_replica.proofs.Stood.{equal_at_rest}
use Rattle.cs_replica.proofs.laws.equal_at_rest.Goals as goal

pub returns : goal.returns
returns c = equal_at_rest
