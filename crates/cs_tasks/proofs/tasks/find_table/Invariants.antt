use Rattle.std.proofs.Common.{◌≡◌, ◌≤◌, ◌+◌, length, option_map}
use Rattle.cs_tasks.specs.Tasks.{table_of}
use Rattle.cs_tasks.proofs.tasks.find_table.Given as goal

abbrev pub invariant-loop-table : goal.invariant-loop-table
invariant-loop-table l =
    (l.place + length l.rest ≡ length l.fn.catalog) × (length l.fn.catalog ≤ 1000)
    × (option_map (λ p. p + l.place) (table_of l.group l.rest) ≡ table_of l.fn.group l.fn.catalog)

abbrev pub decreases-loop-table : goal.decreases-loop-table
decreases-loop-table l = length l.rest
