use Rattle.std.proofs.Common.{◌≡◌, ◌++◌, map, take}
use Rattle.cs_normal.specs.Headers.{header}
use Rattle.cs_opening.proofs.values.put_tables.Given as goal

abbrev pub invariant-loop-group : goal.invariant-loop-group
invariant-loop-group l = l.tables.items ≡ l.fn.tables.items ++ map header (take l.group-index l.groups)
