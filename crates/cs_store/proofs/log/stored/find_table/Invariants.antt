use Rattle.std.proofs.Common.{◌≡◌, ◌++◌, List, length}
use Rattle.cs_value.specs.declared.catalog.TableDef.{TableDef}
use Rattle.cs_store.proofs.log.stored.find_table.Given as goal

abbrev pub decreases-loop-table : goal.decreases-loop-table
decreases-loop-table l = length l.rest

abbrev pub invariant-loop-table : goal.invariant-loop-table
invariant-loop-table l = (before : List TableDef) × (l.tables ≡ before ++ l.rest)
