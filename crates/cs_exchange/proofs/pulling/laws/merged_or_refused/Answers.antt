use Rattle.cs_exchange.proofs.PullingLemmas.MergedSome as law
use Rattle.cs_exchange.proofs.pulling.laws.merged_or_refused.Goals as goal

pub returns : goal.returns
returns g c = law.merged_or_refused c.defined_or_not.ensures g.P.Picker.picks g.P.Picker.is_ready c.taken_or_stopped.ensures.contents
