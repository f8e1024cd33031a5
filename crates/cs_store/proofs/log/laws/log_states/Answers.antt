use Rattle.cs_store.proofs.LogLemmas.States.{log_states}
use Rattle.cs_store.proofs.log.laws.log_states.Goals as goal

pub returns : goal.returns
returns c = log_states c.applied_is_net.ensures c.widened_are_tables.ensures c.widened_is_state.ensures
