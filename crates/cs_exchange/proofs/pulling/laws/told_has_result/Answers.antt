use Rattle.cs_exchange.proofs.PullingLemmas.MergedSome as law
use Rattle.cs_exchange.proofs.pulling.laws.told_has_result.Goals as goal

pub returns : goal.returns
returns g c = law.told_has_result c.one_form.ensures c.form_or_not.ensures g.P.Picker.picks g.P.Picker.is_ready c.merged_or_refused.ensures
