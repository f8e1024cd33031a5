use Rattle.std.proofs.Common.{take}
use Rattle.std.specs.Fmt.{HasWritten, IsPlainFormatter}
use Rattle.cs_text.specs.Text.{tables_text}
use Rattle.cs_text.proofs.tables.TablesTextDisplay.fmt.Given as goal

abbrev pub invariant-loop-table : goal.invariant-loop-table
invariant-loop-table g l =
    IsPlainFormatter l.initial.f → HasWritten g.W.Write.write_str_gives l.initial.f (tables_text (take l.table-index l.table-items)) l.f
