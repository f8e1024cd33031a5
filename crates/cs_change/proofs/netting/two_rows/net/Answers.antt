use Rattle.std.proofs.Common.{◌≡◌, false}
use Rattle.std.specs.Option.{option_copied}
use Rattle.cs_change.specs.Action.{action_any}
use Rattle.cs_change.specs.Net.{net as the_net}
use Rattle.cs_change.proofs.NettingLemmas.Made.{first_net, takes_at}
use Rattle.cs_change.proofs.netting.two_rows.net.Goals as goal

pub returns-clause-takes : goal.returns-clause-takes
returns-clause-takes c =
    let base = option_copied c.args.before in
    let end = option_copied c.args.after in
    let read = c.as_slice-marks.result.now in
    let is : action_any c.of_first.result ≡ the_net read base end = rw (c.of_first.ensures, c.in_ok-net_into.ensures.ok, c.new-changes.ensures) (first_net false (the_net read base end)) in
    takes_at c.net_takes.ensures c.args.table.now.key_marks read c.requires.0 base end (action_any c.of_first.result) c.as_slice-marks.ensures c.requires.1 c.requires.2 is
