use Rattle.cs_exchange.proofs.PushingLemmas.Exists.{made_or_push_fault}
use Rattle.cs_exchange.proofs.pushing.laws.made_or_push_fault.Goals as goal

pub returns : goal.returns
returns c = made_or_push_fault c.pending_is_outgoing.ensures
