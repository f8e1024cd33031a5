use Rattle.std.proofs.Common.{◌≡◌, ◌++◌, map, take}
use Rattle.std.specs.Map.{keys_of}
use Rattle.cs_exchange.specs.pushing.Batches.{clears, place_part}
use Rattle.cs_exchange.proofs.pushing.clearing.clear_changes.Given as goal

abbrev pub invariant-loop-at : goal.invariant-loop-at
invariant-loop-at l = map place_part l.edits ≡ map place_part l.fn.edits ++ map (clears l.number) (take l.at (keys_of l.changes))
