use Rattle.std.proofs.Common.{take}
use Rattle.std.specs.List.{All}
use Rattle.cs_group.specs.Steps.Folding.{AreFolded}
use Rattle.cs_group.specs.Steps.Gathering.{lent_changes, lent_numbers}
use Rattle.cs_group.specs.Steps.Reading.{Rise}
use Rattle.cs_group.proofs.gathering.fold_risen.Given as goal

abbrev pub invariant-loop-at : goal.invariant-loop-at
invariant-loop-at g l = record {
  rise : All (Rise (lent_numbers l.changes)) (take l.at l.groups);
  folded : AreFolded (g.F.Folds.Step l.marks (lent_changes l.changes)) (take l.at l.groups) l.fn.begun l.folding;
}
