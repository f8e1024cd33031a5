use Rattle.std.proofs.Common.{◌≡◌, ◌++◌, take}
use Rattle.std.specs.Prelude.{pos}
use Rattle.cs_store.specs.Written.{pairs_of}
use Rattle.cs_map_store.specs.Leaves.{in_table}
use Rattle.cs_map_store.proofs.leaves.list_leaf.Given as goal

abbrev pub invariant-loop-at : goal.invariant-loop-at
invariant-loop-at l = pairs_of l.rows.items ≡ pairs_of l.initial.rows.items ++ in_table (pos l.table) (take l.at l.leaf)
