use Rattle.cs_nodes.proofs.FollowingLemmas.OneSent.{one_known_push}
use Rattle.cs_nodes.proofs.following.laws.one_known_push.Goals as goal

pub returns : goal.returns
returns g c =
    one_known_push g.P.Picker.picks (record {
      pulls = record {
        view = c.one_view.ensures.one;
        contents = c.one_contents.ensures.contents;
        log_rows = c.one_contents.ensures.log_rows;
        pull = c.one_pull.ensures.view;
        fault = c.one_pull_fault.ensures.one;
        no_fault = c.one_pull_fault.ensures.pulled;
        wide_tables = c.widened_are_tables.ensures;
      };
      push = c.one_push.ensures.one;
      fault = c.one_push.ensures.fault;
      no_fault = c.one_push.ensures.made;
    })
