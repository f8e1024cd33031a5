use Rattle.cs_store.proofs.LogLemmas.States.{catalogs_are_tables}
use Rattle.cs_store.proofs.log.laws.catalogs_are_tables.Goals as goal

pub returns : goal.returns
returns c = catalogs_are_tables c.applied_is_net.ensures c.widened_are_tables.ensures c.widened_is_state.ensures
