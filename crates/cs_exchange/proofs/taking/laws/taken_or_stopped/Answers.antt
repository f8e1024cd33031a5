use Rattle.cs_exchange.proofs.TakingLemmas.TakenSome.{taken_or_stopped}
use Rattle.cs_exchange.proofs.TakingLemmas.TakenStored.{taken_in_or_stopped}
use Rattle.cs_exchange.proofs.TakingLemmas.Worked.{MergeLaws}
use Rattle.cs_exchange.proofs.taking.laws.taken_or_stopped.Goals as goal

pub returns : goal.returns
returns g c =
    let laws : MergeLaws = record {
      tells = c.bytes_tell_keys.ensures;
      fit = c.set_columns_fit.ensures;
      place = c.catalogs.ensures.place;
      normal_is_net = c.normal_is_net.ensures;
      kinds = c.kind_tells.ensures;
      made_as = c.made_as_replaced.ensures;
      replaces = c.replaces_unless_not_found.ensures;
      diamond = c.diamond.ensures;
    } in
    record {
      view = taken_or_stopped laws c.one_key_stands.ensures c.defined_is_applied.ensures c.applied_is_net.ensures g.P.Picker.picks g.P.Picker.is_ready;
      contents = taken_in_or_stopped laws c.one_key_stands.ensures c.defined_is_applied.ensures c.applied_is_net.ensures c.net_takes.ensures c.one_view.ensures.one g.P.Picker.picks g.P.Picker.is_ready;
    }
