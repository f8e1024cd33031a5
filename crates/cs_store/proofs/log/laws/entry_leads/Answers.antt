use Rattle.cs_store.proofs.LogLemmas.States.{entry_leads}
use Rattle.cs_store.proofs.log.laws.entry_leads.Goals as goal

pub returns : goal.returns
returns c = entry_leads
