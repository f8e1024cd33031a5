use Rattle.cs_exchange.proofs.PullingLemmas.OneMerging as law
use Rattle.cs_exchange.proofs.pulling.laws.one_merge_fault.Goals as goal

pub returns : goal.returns
returns g c = record {
  one = law.one_merge_fault g.P.Picker.picks c.one_stop_taking.ensures;
  taken = law.no_fault g.P.Picker.picks c.bad_is_neither.ensures c.no_stop_where_taken.ensures;
}
