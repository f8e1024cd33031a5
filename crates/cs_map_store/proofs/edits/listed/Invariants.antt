use Rattle.std.proofs.Common.{◌≡◌, take}
use Rattle.cs_map_store.proofs.edits.listed.Given as goal

abbrev pub invariant-loop-at : goal.invariant-loop-at
invariant-loop-at l = l.list.items ≡ take l.at l.edits
