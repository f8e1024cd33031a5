use Rattle.cs_node_lines.proofs.FollowingLemmas.Followed.{plain_so}
use Rattle.cs_node_lines.proofs.following.next.ask_line.Goals as goal

pub returns-in_default : goal.returns-in_default
returns-in_default g c =
    plain_so g.S.RowStore c.args.catalog.now c.args.ask.now c.work_ask.result c.args.replica.now c.work_ask.new.replica
    c.in_default.not-Answer c.work_ask.ensures
