use Rattle.std.specs.Fn.{CalledAt}
use Rattle.cs_apply.proofs.Unasked as unasked
use Rattle.cs_apply.proofs.laws.normal_asks.Goals as goal

pub returns : goal.returns
returns g c = record {
  defined = unasked.defined_asks_nothing (CalledAt g.H.FnMut) c.kind_tells.ensures;
  not_stopped = unasked.defined_is_not_stopped (CalledAt g.H.FnMut) c.kind_tells.ensures;
  unasked = unasked.unasked_is_defined (CalledAt g.H.FnMut);
  stops = unasked.stops_at_a_change (CalledAt g.H.FnMut);
}
