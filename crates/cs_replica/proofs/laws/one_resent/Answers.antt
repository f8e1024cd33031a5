use Rattle.cs_replica.proofs.OnePush.{one_resent}
use Rattle.cs_replica.proofs.laws.one_resent.Goals as goal

pub returns : goal.returns
returns c = one_resent
