use Rattle.cs_exchange.proofs.PullingLemmas.PulledSome.{pulled_or_refused}
use Rattle.cs_exchange.proofs.pulling.laws.pulled_or_refused.Goals as goal

pub returns : goal.returns
returns g c =
    pulled_or_refused c.defined_or_not.ensures c.next_or_not.ensures c.one_body.ensures c.net_is_applied.ensures c.defined_is_applied.ensures c.one_contents.ensures.next c.widen_can_be_taken.ensures
    g.P.Picker.picks g.P.Picker.is_ready c.taken_or_stopped.ensures.contents
