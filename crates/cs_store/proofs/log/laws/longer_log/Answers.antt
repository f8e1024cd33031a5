use Rattle.cs_store.proofs.LogLemmas.Logs.{longer_log}
use Rattle.cs_store.proofs.log.laws.longer_log.Goals as goal

pub returns : goal.returns
returns c = longer_log
