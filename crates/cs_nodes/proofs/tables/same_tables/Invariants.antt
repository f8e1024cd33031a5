use Rattle.std.proofs.Common.{◌≡◌, ◌↔◌, length}
use Rattle.cs_nodes.proofs.tables.same_tables.Given as goal

abbrev pub invariant-loop-x : goal.invariant-loop-x
invariant-loop-x l = (l.left ≡ l.right) ↔ (l.fn.left ≡ l.fn.right)

abbrev pub decreases-loop-x : goal.decreases-loop-x
decreases-loop-x l = length l.left
