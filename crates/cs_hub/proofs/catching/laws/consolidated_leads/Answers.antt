use Rattle.cs_hub.proofs.CatchingLemmas.Leads as law
use Rattle.cs_hub.proofs.catching.laws.consolidated_leads.Goals as goal

pub returns : goal.returns
returns c = law.consolidated_leads c.catalogs_are_tables.ensures c.join_leads.ensures c.plain_slices.ensures c.log_states.ensures
