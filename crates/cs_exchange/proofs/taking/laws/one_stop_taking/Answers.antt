use Rattle.cs_exchange.proofs.TakingLemmas.TakenOnce as law
use Rattle.cs_exchange.proofs.taking.laws.one_stop_taking.Goals as goal

pub returns : goal.returns
returns g c = law.one_stop_taking g.P.Picker.picks
