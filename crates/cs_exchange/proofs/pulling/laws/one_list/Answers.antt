use Rattle.cs_exchange.proofs.PullingLemmas.OneListing.{one_list}
use Rattle.cs_exchange.proofs.pulling.laws.one_list.Goals as goal

pub returns : goal.returns
returns g c =
    one_list g.P.Picker.picks (record {
      read = c.one_read.ensures;
      view = c.one_view.ensures.one;
      contents = c.one_contents.ensures.contents;
      log_rows = c.one_contents.ensures.log_rows;
      pull = c.one_pull.ensures.view;
      stop = c.one_stop_taking.ensures;
      no_stop = c.no_stop_where_taken.ensures;
      bad = c.bad_is_neither.ensures;
      wide_tables = c.widened_are_tables.ensures;
    })
