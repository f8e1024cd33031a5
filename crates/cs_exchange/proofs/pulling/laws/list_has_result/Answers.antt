use Rattle.cs_exchange.proofs.PullingLemmas.ListedSome.{list_has_result}
use Rattle.cs_exchange.proofs.pulling.laws.list_has_result.Goals as goal

pub returns : goal.returns
returns g c = list_has_result c.one_read.ensures c.read_or_not.ensures c.widened_are_tables.ensures g.P.Picker.picks g.P.Picker.is_ready c.pulled_or_refused.ensures
