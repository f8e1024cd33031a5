use Rattle.cs_exchange.proofs.TakingLemmas.Widened as law
use Rattle.cs_exchange.proofs.taking.laws.widened_leads.Goals as goal

pub returns : goal.returns
returns c = law.widened_leads c.sound_widens.ensures
