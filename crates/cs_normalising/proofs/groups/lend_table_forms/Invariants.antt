use Rattle.std.proofs.Common.{List, ◌++◌, length, map}
use Rattle.std.specs.List.{AllByRecursion, Contains}
use Rattle.cs_normalising.specs.Lent.{table_of}
use Rattle.cs_normalising.specs.Steps.TableByTable.{AreTablesOf}
use Rattle.cs_normal.specs.declared.normal.TableChanges.{TableChanges}
use Rattle.cs_normalising.proofs.groups.lend_table_forms.Given as goal

abbrev pub invariant-loop-table : goal.invariant-loop-table
invariant-loop-table l = record {
  passed : AllByRecursion (Contains l.tables) l.rest;
  built : (more : List TableChanges) → AreTablesOf l.groups l.rest more → AreTablesOf l.groups l.tables (map table_of l.normal.items ++ more);
}

abbrev pub decreases-loop-table : goal.decreases-loop-table
decreases-loop-table l = length l.rest
