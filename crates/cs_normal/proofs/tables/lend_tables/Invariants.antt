use Rattle.std.proofs.Common.{◌≡◌, map, take}
use Rattle.cs_normal.specs.Normal.{group_of}
use Rattle.cs_normal.proofs.tables.lend_tables.Given as goal

abbrev pub invariant-loop-table : goal.invariant-loop-table
invariant-loop-table l = l.groups.items ≡ map group_of (take l.table-index l.tables)
