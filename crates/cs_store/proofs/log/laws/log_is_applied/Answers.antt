use Rattle.cs_store.proofs.LogLemmas.States.{log_is_applied}
use Rattle.cs_store.proofs.log.laws.log_is_applied.Goals as goal

pub returns : goal.returns
returns c = log_is_applied
