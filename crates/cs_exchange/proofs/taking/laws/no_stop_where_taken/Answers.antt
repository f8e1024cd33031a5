use Rattle.cs_exchange.proofs.TakingLemmas.TakenOnce as law
use Rattle.cs_exchange.proofs.taking.laws.no_stop_where_taken.Goals as goal

pub returns : goal.returns
returns g c = law.no_stop_where_taken g.P.Picker.picks
