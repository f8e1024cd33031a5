use Rattle.cs_store.proofs.LogLemmas.Widens.{catalog_by_widens}
use Rattle.cs_store.proofs.log.laws.catalog_by_widens.Goals as goal

pub returns : goal.returns
returns c = catalog_by_widens
