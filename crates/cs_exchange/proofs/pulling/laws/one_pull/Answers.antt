use Rattle.cs_exchange.proofs.PullingLemmas.OnePulling as law
use Rattle.cs_exchange.proofs.pulling.laws.one_pull.Goals as goal

pub returns : goal.returns
returns g c = record {
  view = law.one_pull g.P.Picker.picks c.one_view.ensures.one c.one_widened.ensures c.one_taken.ensures.view;
  contents = law.one_pull_in g.P.Picker.picks c.one_view.ensures.one c.one_widened.ensures c.one_taken.ensures.view c.one_contents.ensures.contents;
}
