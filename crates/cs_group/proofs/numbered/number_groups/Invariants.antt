use Rattle.std.proofs.Common.{◌≡◌, ◌++◌, map, take}
use Rattle.cs_change.specs.declared.group.Group.{Group}
use Rattle.cs_group.specs.Steps.Numbering.{numbered_behind}
use Rattle.cs_group.proofs.numbered.number_groups.Given as goal

abbrev pub invariant-loop-group : goal.invariant-loop-group
invariant-loop-group l = numbered_behind l.numbered.items ≡ numbered_behind l.fn.numbered.items ++ map (λ (group : Group). (l.number, group)) (take l.group-index l.groups)
