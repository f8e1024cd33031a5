use Rattle.std.proofs.Common.{take}
use Rattle.cs_group.specs.Steps.Gathering.{IsGathered}
use Rattle.cs_group.specs.Steps.Numbering.{numbered_behind}
use Rattle.cs_group.proofs.gathered.gather.Given as goal

abbrev pub invariant-loop-group : goal.invariant-loop-group
invariant-loop-group l = IsGathered l.marks (numbered_behind (take l.group-index l.groups)) l.gathered
