use Rattle.std.proofs.Common.{◌≡◌, ◌++◌, take}
use Rattle.cs_pending.specs.position.Values.{catalog_bytes}
use Rattle.cs_pending.proofs.position.values.put_table_headers.Given as goal

abbrev pub invariant-loop-table : goal.invariant-loop-table
invariant-loop-table l = l.out.items ≡ l.fn.out.items ++ catalog_bytes (take l.table-index l.tables)
