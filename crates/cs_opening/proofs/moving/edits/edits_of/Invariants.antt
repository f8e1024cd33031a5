use Rattle.std.proofs.Common.{◌≡◌, map, take}
use Rattle.cs_apply.specs.placement.Places.{task_of}
use Rattle.cs_opening.specs.moving.Steps.{edit_parts, task_parts}
use Rattle.cs_opening.proofs.moving.edits.edits_of.Given as goal

-- those so far
abbrev pub invariant-loop-one : goal.invariant-loop-one
invariant-loop-one l = map edit_parts l.edits ≡ map task_parts (map task_of (take l.one-index l.placed))
