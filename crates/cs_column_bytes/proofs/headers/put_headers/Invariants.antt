use Rattle.std.proofs.Common.{◌≡◌, ◌++◌, length, map, take}
use Rattle.cs_column_bytes.specs.Steps.{heads_behind}
use Rattle.cs_column_bytes.proofs.headers.put_headers.Given as goal

abbrev pub invariant-loop-group : goal.invariant-loop-group
invariant-loop-group g l =
    (heads_behind l.headers.items ≡ heads_behind l.fn.headers.items ++ map g.G.Headed.head (take l.group-index l.fn.groups))
    × (take (length l.fn.headers.items) l.headers.items ≡ l.fn.headers.items)
