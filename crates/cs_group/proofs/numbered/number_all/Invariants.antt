use Rattle.std.proofs.Common.{◌≡◌, ◌++◌, ◌+◌, drop}
use Rattle.cs_group.specs.Steps.Numbering.{numbered_behind, numbered_from}
use Rattle.cs_group.proofs.numbered.number_all.Given as goal

abbrev pub invariant-loop-index : goal.invariant-loop-index
invariant-loop-index l = numbered_behind l.numbered.items ++ numbered_from (l.index + 1) (drop l.index l.changesets) ≡ numbered_from 1 l.changesets
