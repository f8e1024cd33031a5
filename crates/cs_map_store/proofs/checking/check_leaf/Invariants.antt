use Rattle.std.proofs.Common.{take}
use Rattle.std.specs.List.{AllByRecursion}
use Rattle.cs_map_store.specs.Checked.{IsGood}
use Rattle.cs_map_store.proofs.checking.check_leaf.Given as goal

abbrev pub invariant-loop-at : goal.invariant-loop-at
invariant-loop-at l = AllByRecursion (IsGood l.shelf l.catalog) (take l.at l.leaf)
