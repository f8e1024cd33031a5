use Rattle.std.proofs.Common.{◌≡◌, take}
use Rattle.cs_normal.specs.Normal.{normal_spelling}
use Rattle.cs_normal.specs.Joined.{joined}
use Rattle.cs_normal.proofs.pieces.pieces_of.Given as goal

abbrev pub invariant-loop-table : goal.invariant-loop-table
invariant-loop-table l = joined l.pieces.items ≡ normal_spelling (take l.table-index l.tables)
