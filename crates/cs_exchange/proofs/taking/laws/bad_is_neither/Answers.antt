use Rattle.cs_exchange.proofs.TakingLemmas.TakenOnce as law
use Rattle.cs_exchange.proofs.taking.laws.bad_is_neither.Goals as goal

pub returns : goal.returns
returns g c = law.bad_is_neither g.P.Picker.picks c.defined_is_applied.ensures
