use Rattle.cs_exchange.proofs.PullingLemmas.OneMerging as law
use Rattle.cs_exchange.proofs.pulling.laws.one_told.Goals as goal

pub returns : goal.returns
returns g c =
    law.one_told g.P.Picker.picks (record {
      form = c.one_form.ensures;
      view = c.one_view.ensures.one;
      contents = c.one_contents.ensures.contents;
      log_rows = c.one_contents.ensures.log_rows;
      take = c.one_taken.ensures.view;
      stop = c.one_stop_taking.ensures;
      no_stop = c.no_stop_where_taken.ensures;
      bad = c.bad_is_neither.ensures;
    })
