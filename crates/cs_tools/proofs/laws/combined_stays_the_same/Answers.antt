use Rattle.cs_tools.proofs.FormLemmas.{combined_stays}
use Rattle.cs_tools.proofs.laws.combined_stays_the_same.Goals as goal

pub returns : goal.returns
returns c = combined_stays c.heads_of_catalog.ensures c.stays_the_same.ensures
