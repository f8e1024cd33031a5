use Rattle.cs_exchange.proofs.PullingLemmas.Reading as law
use Rattle.cs_exchange.proofs.pulling.laws.one_form.Goals as goal

pub returns : goal.returns
returns c = law.one_form c.changesets.ensures.one c.one_normal_form.ensures
