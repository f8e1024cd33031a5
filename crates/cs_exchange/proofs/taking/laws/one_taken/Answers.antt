use Rattle.cs_exchange.proofs.TakingLemmas.TakenOnce as law
use Rattle.cs_exchange.proofs.taking.laws.one_taken.Goals as goal

pub returns : goal.returns
returns g c = record {
  view = law.one_taken c.bytes_tell_keys.ensures c.set_columns_fit.ensures c.catalogs.ensures.place c.normal_is_net.ensures c.merge_alike.ensures.unasked g.P.Picker.picks c.one_view.ensures.one;
  contents = law.one_taken_in c.bytes_tell_keys.ensures c.set_columns_fit.ensures c.catalogs.ensures.place c.normal_is_net.ensures c.merge_alike.ensures.unasked g.P.Picker.picks c.one_view.ensures.one;
}
