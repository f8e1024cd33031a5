use Rattle.std.proofs.Common.{take}
use Rattle.cs_group.specs.Steps.Gathering.{AreLent}
use Rattle.cs_group.specs.Steps.Numbering.{numbered_behind}
use Rattle.cs_group.proofs.lent.lend_changes.Given as goal

abbrev pub invariant-loop-number : goal.invariant-loop-number
invariant-loop-number l = AreLent (numbered_behind (take l.number-index l.groups)) l.parts.items l.of.items
