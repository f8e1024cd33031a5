use Rattle.cs_replica.proofs.OnePush.{one_pushed}
use Rattle.cs_replica.proofs.laws.one_pushed.Goals as goal

pub returns : goal.returns
returns c = one_pushed c.one_pending.ensures c.one_push.ensures.fault c.one_push.ensures.made
