use Rattle.std.proofs.Common.{take}
use Rattle.cs_column_bytes.specs.Steps.{heads_behind, FirstColumns}
use Rattle.cs_column_bytes.proofs.headers.first_columns.Given as goal

abbrev pub invariant-loop-header : goal.invariant-loop-header
invariant-loop-header l = FirstColumns (heads_behind (take l.header-index l.headers)) l.columns
