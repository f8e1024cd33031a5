use Rattle.cs_exchange.proofs.PullingLemmas.ListedSome as law
use Rattle.cs_exchange.proofs.pulling.laws.read_or_not.Goals as goal

pub returns : goal.returns
returns c = law.read_or_not c.form_or_not.ensures c.next_or_not.ensures
