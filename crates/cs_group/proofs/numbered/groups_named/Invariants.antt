use Rattle.std.proofs.Common.{◌≡◌, take}
use Rattle.cs_group.specs.Steps.Numbering.{named, numbered_behind}
use Rattle.cs_group.proofs.numbered.groups_named.Given as goal

abbrev pub invariant-loop-number : goal.invariant-loop-number
invariant-loop-number l = numbered_behind l.found.items ≡ named l.name (numbered_behind (take l.number-index l.groups))
