use Rattle.std.proofs.Common.{◌≡◌, take}
use Rattle.cs_group.specs.Steps.Numbering.{groups_at, numbered_behind}
use Rattle.cs_group.proofs.numbered.groups_placed.Given as goal

abbrev pub invariant-loop-place : goal.invariant-loop-place
invariant-loop-place l = numbered_behind l.found.items ≡ groups_at (numbered_behind l.groups) (take l.place-index l.places)
