use Rattle.std.proofs.Common.{take}
use Rattle.std.specs.Fmt.{HasWritten, IsPlainFormatter}
use Rattle.cs_node_lines.specs.told.Dump.{rows_text}
use Rattle.cs_node_lines.proofs.told.rows.write_rows.Given as goal

abbrev pub invariant-loop-stored : goal.invariant-loop-stored
invariant-loop-stored g l =
    IsPlainFormatter l.initial.f → HasWritten g.W.Write.write_str_gives l.initial.f (rows_text l.table (take l.stored-index l.rows)) l.f
