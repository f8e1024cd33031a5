use Rattle.std.proofs.Common.{◌≡◌, ◌++◌, take}
use Rattle.cs_column_bytes.specs.KeyPlaces.{sqlite_spelling}
use Rattle.cs_column_bytes.specs.Steps.{heads_behind}
use Rattle.cs_column_bytes.proofs.spelling.put_tables.Given as goal

abbrev pub invariant-loop-table : goal.invariant-loop-table
invariant-loop-table l = l.out.items ≡ l.fn.out.items ++ sqlite_spelling (heads_behind l.headers) (take l.table-index l.tables)
