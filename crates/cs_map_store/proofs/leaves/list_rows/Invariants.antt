use Rattle.std.proofs.Common.{◌≡◌, take}
use Rattle.std.specs.Prelude.{pos}
use Rattle.cs_store.specs.Written.{pairs_of}
use Rattle.cs_map_store.specs.Leaves.{in_table, flat}
use Rattle.cs_map_store.proofs.leaves.list_rows.Given as goal

abbrev pub invariant-loop-leaf : goal.invariant-loop-leaf
invariant-loop-leaf l = pairs_of l.rows.items ≡ in_table (pos l.table) (flat (take l.leaf-index l.leaves))
