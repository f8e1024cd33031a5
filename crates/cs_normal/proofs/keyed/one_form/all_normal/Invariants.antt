use Rattle.std.proofs.Common.{take}
use Rattle.cs_normal.specs.keyed.Prepared.{AreForms}
use Rattle.cs_normal.proofs.keyed.one_form.all_normal.Given as goal

abbrev pub invariant-loop-change : goal.invariant-loop-change
invariant-loop-change l = AreForms l.marks (take l.change-index l.changes)
