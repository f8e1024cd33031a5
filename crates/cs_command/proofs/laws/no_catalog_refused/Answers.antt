use Rattle.cs_command.proofs.CatalogLemmas.{no_catalog_refused}
use Rattle.cs_command.proofs.laws.no_catalog_refused.Goals as goal

pub returns : goal.returns
returns c = no_catalog_refused
