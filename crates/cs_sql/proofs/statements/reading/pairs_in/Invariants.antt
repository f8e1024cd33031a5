use Rattle.std.proofs.Common.{◌≡◌, map, take}
use Rattle.cs_store.specs.Written.{pairs_of}
use Rattle.cs_sql.specs.statements.Steps.{pair_read}
use Rattle.cs_sql.proofs.statements.reading.pairs_in.Given as goal

abbrev pub invariant-loop-row : goal.invariant-loop-row
invariant-loop-row l = pairs_of l.pairs.items ≡ map pair_read (take l.row-index l.rows)
