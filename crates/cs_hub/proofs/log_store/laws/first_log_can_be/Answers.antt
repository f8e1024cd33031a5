use Rattle.cs_hub.proofs.LogStoreLemmas.First.{first_log_can_be}
use Rattle.cs_hub.proofs.log_store.laws.first_log_can_be.Goals as goal

pub returns : goal.returns
returns c = first_log_can_be c.empty_is_log.ensures
