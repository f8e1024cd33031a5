use Rattle.std.proofs.Common.{◌≡◌, ◌≤◌}
use Rattle.std.specs.Prelude.{string_bytes}
use Rattle.cs_node_lines.proofs.WorkingLemmas.Dumping.{IsDumping}
use Rattle.cs_node_lines.proofs.working.dump.put_tables.Given as goal

abbrev pub invariant-loop-table : goal.invariant-loop-table
invariant-loop-table g l =
    IsDumping g.S.RowStore l.table (string_bytes l.initial.text) (string_bytes l.text) l.initial.replica l.replica
    × (l.replica.catalog ≡ l.initial.replica.catalog)
    × (g.S.RowStore.failed l.initial.replica.store ≤ g.S.RowStore.failed l.replica.store)
