use Rattle.cs_store.proofs.LogLemmas.Logs.{empty_is_log}
use Rattle.cs_store.proofs.log.laws.empty_is_log.Goals as goal

pub returns : goal.returns
returns c = empty_is_log
