use Rattle.std.proofs.Common.{◌≡◌, length}
use Rattle.cs_node_lines.specs.asks.Reading.{AreRead}
use Rattle.cs_node_lines.proofs.asks.input.read_asks.Given as goal

abbrev pub invariant-loop-asked : goal.invariant-loop-asked
invariant-loop-asked g l =
    AreRead l.catalog (g.R.Read.remaining l.initial.reader) (g.R.Read.remaining l.reader) l.asks.items × (length l.asks.items ≡ l.asked)
