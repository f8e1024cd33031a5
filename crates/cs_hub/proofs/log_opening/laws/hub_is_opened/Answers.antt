use Rattle.cs_hub.proofs.LogOpeningLemmas.Whole.{hub_is_opened}
use Rattle.cs_hub.proofs.log_opening.laws.hub_is_opened.Goals as goal

pub returns : goal.returns
returns c = hub_is_opened c.catalogs_are_tables.ensures c.decoding.ensures.log c.decoding.ensures.in_order c.catalogs.ensures.place
