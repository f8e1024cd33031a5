use Rattle.cs_store.proofs.LogLemmas.States.{catalog_next_is}
use Rattle.cs_store.proofs.log.laws.catalog_next.Goals as goal

pub returns : goal.returns
returns c = catalog_next_is
