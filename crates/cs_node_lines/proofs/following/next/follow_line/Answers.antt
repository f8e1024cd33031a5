use Rattle.std.proofs.Common.{◌∙◌, sym}
use Rattle.cs_node_lines.proofs.FollowingLemmas.Followed.{asked_so}
use Rattle.cs_node_lines.proofs.following.next.follow_line.Goals as goal

pub returns-in-Ok-Some : goal.returns-in-Ok-Some
returns-in-Ok-Some g c = asked_so g.S.RowStore c.args.catalog.now c.args.line.now c.in-Ok-Some.ask c.ask_line.result c.args.replica.now c.ask_line.new.replica (sym c.in-Ok-Some.field-0-is ∙ c.in-Ok-Some.ensures) c.ask_line.ensures
