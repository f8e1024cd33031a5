use Rattle.cs_nodes.proofs.FollowingLemmas.OneKnown.{one_known_pull}
use Rattle.cs_nodes.proofs.following.laws.one_known_pull.Goals as goal

pub returns : goal.returns
returns g c =
    one_known_pull g.P.Picker.picks (record {
      view = c.one_view.ensures.one;
      contents = c.one_contents.ensures.contents;
      log_rows = c.one_contents.ensures.log_rows;
      pull = c.one_pull.ensures.view;
      fault = c.one_pull_fault.ensures.one;
      no_fault = c.one_pull_fault.ensures.pulled;
      wide_tables = c.widened_are_tables.ensures;
    })
