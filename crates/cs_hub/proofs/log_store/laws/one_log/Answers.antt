use Rattle.cs_hub.proofs.LogStoreLemmas.OneLog.{one_log}
use Rattle.cs_hub.proofs.log_store.laws.one_log.Goals as goal

pub returns : goal.returns
returns c = one_log c.one_stored_log.ensures
