use Rattle.cs_exchange.proofs.TakingLemmas.TakenStored as law
use Rattle.cs_exchange.proofs.taking.laws.taker_takes.Goals as goal

pub returns : goal.returns
returns c =
    law.taker_takes
    (record {
      tells = c.bytes_tell_keys.ensures;
      fit = c.set_columns_fit.ensures;
      place = c.catalogs.ensures.place;
      normal_is_net = c.normal_is_net.ensures;
      kinds = c.kind_tells.ensures;
      made_as = c.made_as_replaced.ensures;
      replaces = c.replaces_unless_not_found.ensures;
      diamond = c.diamond.ensures;
    })
    c.one_key_stands.ensures c.defined_is_applied.ensures c.applied_is_net.ensures c.net_takes.ensures c.one_view.ensures.one c.not_found_is_covered.ensures
