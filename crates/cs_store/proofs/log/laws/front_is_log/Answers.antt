use Rattle.cs_store.proofs.LogLemmas.Logs.{front_is_log}
use Rattle.cs_store.proofs.log.laws.front_is_log.Goals as goal

pub returns : goal.returns
returns c = front_is_log
