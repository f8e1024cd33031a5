use Rattle.cs_exchange.proofs.PullingLemmas.Reading as law
use Rattle.cs_exchange.proofs.pulling.laws.one_read.Goals as goal

pub returns : goal.returns
returns c = law.one_read c.one_form.ensures c.one_body.ensures
