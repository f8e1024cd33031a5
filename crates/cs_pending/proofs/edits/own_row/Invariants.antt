use Rattle.std.proofs.Common.{◌≡◌, take}
use Rattle.cs_pending.proofs.edits.own_row.Given as goal

abbrev pub invariant-loop-value : goal.invariant-loop-value
invariant-loop-value l = l.row ≡ take l.value-index l.values
