use Rattle.std.proofs.Common.{◌≡◌, map, take}
use Rattle.cs_opening.specs.copying.Steps.{edit_at}
use Rattle.cs_opening.proofs.copying.copying.edits_of.Given as goal

abbrev pub invariant-loop-row : goal.invariant-loop-row
invariant-loop-row l = l.edits ≡ map (edit_at l.number) (take l.row-index l.listed)
