use Rattle.std.proofs.Common.{length}
use Rattle.cs_group.specs.Steps.Reading.{IsReadJoinOf}
use Rattle.cs_group.proofs.PerTable.{SpellSoFar}
use Rattle.cs_group.proofs.tables.spell_read_tables.Given as goal

abbrev pub invariant-loop-table : goal.invariant-loop-table
invariant-loop-table l = SpellSoFar (IsReadJoinOf l.changesets) l.rest l.tables l.spelled

abbrev pub decreases-loop-table : goal.decreases-loop-table
decreases-loop-table l = length l.rest
