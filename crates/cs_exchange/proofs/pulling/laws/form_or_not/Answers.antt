use Rattle.cs_exchange.proofs.PullingLemmas.Reading as law
use Rattle.cs_exchange.proofs.pulling.laws.form_or_not.Goals as goal

pub returns : goal.returns
returns c = law.form_or_not c.changesets.ensures.found c.changesets.ensures.one c.changesets.ensures.right c.form_or_unfit.ensures c.no_fault_where_fit.ensures
