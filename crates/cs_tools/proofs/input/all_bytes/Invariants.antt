use Rattle.std.proofs.Common.{◌≡◌, length}
use Rattle.cs_tools.specs.LinesRead.{AreRead}
use Rattle.cs_tools.proofs.input.all_bytes.Given as goal

abbrev pub invariant-loop-asked : goal.invariant-loop-asked
invariant-loop-asked g l =
    AreRead (g.R.Read.remaining l.initial.reader) (g.R.Read.remaining l.reader) l.inputs.items × (length l.inputs.items ≡ l.asked)
