use Rattle.cs_replica.proofs.PushCan.{push_has_result}
use Rattle.cs_replica.proofs.laws.push_has_result.Goals as goal

pub returns : goal.returns
returns c = push_has_result c.made_or_push_fault.ensures
