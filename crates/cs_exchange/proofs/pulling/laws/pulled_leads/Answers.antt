use Rattle.cs_exchange.proofs.PullingLemmas.Leading.{pulled_leads}
use Rattle.cs_exchange.proofs.pulling.laws.pulled_leads.Goals as goal

pub returns : goal.returns
returns g c = pulled_leads c.net_is_applied.ensures c.widened_leads.ensures g.P.Picker.picks
