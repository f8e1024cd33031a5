use Rattle.cs_store.proofs.LogLemmas.States.{one_state_a_version}
use Rattle.cs_store.proofs.log.laws.one_state_a_version.Goals as goal

pub returns : goal.returns
returns c = one_state_a_version
