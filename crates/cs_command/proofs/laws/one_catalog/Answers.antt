use Rattle.cs_command.proofs.CatalogLemmas.{one_catalog}
use Rattle.cs_command.proofs.laws.one_catalog.Goals as goal

pub returns : goal.returns
returns c = one_catalog
