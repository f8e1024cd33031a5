use Rattle.std.proofs.Common.{take}
use Rattle.cs_pending.specs.rows.Steps.{AreSpelled}
use Rattle.cs_pending.proofs.rows.reading.rows_in.Given as goal

-- the rows are those of the bodies before
abbrev pub invariant-loop-stored : goal.invariant-loop-stored
invariant-loop-stored l = AreSpelled l.fn.columns (take l.stored-index l.fn.listed) l.rows.items
