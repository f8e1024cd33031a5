use Rattle.std.proofs.Common.{◌≡◌, map, take}
use Rattle.cs_order.specs.Order.{keys_behind}
use Rattle.cs_normal.specs.Placed.{table_name}
use Rattle.cs_normal.proofs.headers.lend_table_names.Given as goal

abbrev pub invariant-loop-table : goal.invariant-loop-table
invariant-loop-table l = keys_behind l.names.items ≡ map table_name (take l.table-index l.tables)
