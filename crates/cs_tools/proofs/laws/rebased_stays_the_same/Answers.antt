use Rattle.cs_tools.proofs.FormLemmas.{rebased_stays}
use Rattle.cs_tools.proofs.laws.rebased_stays_the_same.Goals as goal

pub returns : goal.returns
returns c = rebased_stays c.heads_of_catalog.ensures c.rebased_is_normal.ensures c.stays_the_same.ensures
