use Rattle.std.proofs.Common.{◌≡◌, map, take}
use Rattle.cs_widening.specs.Widening.{widened_table}
use Rattle.cs_widening.proofs.widening.wide_tables.Given as goal

abbrev pub invariant-loop-table : goal.invariant-loop-table
invariant-loop-table l = l.wide.items ≡ map (widened_table l.name l.width) (take l.table-index l.tables)
