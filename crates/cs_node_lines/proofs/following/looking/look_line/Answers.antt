use Rattle.cs_node_lines.specs.declared.asks.look.Look.TheVariants as look
use Rattle.cs_node_lines.specs.following.FollowStep.{LookStep}
use Rattle.cs_node_lines.specs.working.Replies.{reply_text}
use Rattle.cs_node_lines.proofs.WorkingLemmas.Made.{stepped_still, stepped_there}
use Rattle.cs_node_lines.proofs.following.looking.look_line.Goals as goal

pub returns-in-Place : goal.returns-in-Place
returns-in-Place g c =
    rw c.in-Place.is (stepped_still g.S.RowStore LookStep look.Place (reply_text c.place_line.result) c.args.replica.now c.place_line.ensures)

pub returns-in-Tables : goal.returns-in-Tables
returns-in-Tables g c =
    rw c.in-Tables.is (stepped_there g.S.RowStore LookStep look.Tables (reply_text c.tables_line.result) c.args.replica.now
    (λ had has m same at. c.tables_line.ensures had has m same))
