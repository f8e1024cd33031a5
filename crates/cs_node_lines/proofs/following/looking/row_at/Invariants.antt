use Rattle.std.proofs.Common.{◌≡◌, length}
use Rattle.std.specs.FinMap.{find}
use Rattle.cs_order.specs.Order.{by_bytes}
use Rattle.cs_node_lines.specs.following.FollowStep.{behind_key}
use Rattle.cs_node_lines.proofs.following.looking.row_at.Given as goal

abbrev pub invariant-loop-row : goal.invariant-loop-row
invariant-loop-row l = behind_key l.key (find by_bytes l.key l.rest) ≡ behind_key l.key (find by_bytes l.key l.rows)

abbrev pub decreases-loop-row : goal.decreases-loop-row
decreases-loop-row l = length l.rest
