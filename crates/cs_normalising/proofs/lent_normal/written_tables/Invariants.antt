use Rattle.std.proofs.Common.{◌≡◌, map}
use Rattle.cs_normalising.specs.Lent.{table_of}
use Rattle.cs_normalising.proofs.lent_normal.written_tables.Given as goal

abbrev pub invariant-loop-table : goal.invariant-loop-table
invariant-loop-table l = l.made.items ≡ map table_of l.yielded
