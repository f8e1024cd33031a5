use Rattle.cs_replica.proofs.Stood.{stands_longer}
use Rattle.cs_replica.proofs.laws.stands_longer.Goals as goal

pub returns : goal.returns
returns c = stands_longer c.longer_log.ensures
