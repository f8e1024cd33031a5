use Rattle.cs_store.proofs.LogLemmas.Logs.{appended_is_log}
use Rattle.cs_store.proofs.log.laws.appended_is_log.Goals as goal

pub returns : goal.returns
returns c = appended_is_log
