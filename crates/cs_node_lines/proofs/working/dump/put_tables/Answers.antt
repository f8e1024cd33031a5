use Rattle.std.proofs.Common.{◌≡◌, ◌∙◌, [], drop, length, arith}
use Rattle.std.specs.Prelude.{string_bytes}
use Rattle.std.proofs.lemmas.Grind.{common_steps}
use Rattle.cs_node_lines.proofs.WorkingLemmas.Counting.{counts_behind}
use Rattle.cs_node_lines.proofs.WorkingLemmas.Dumping.{drop_all, dumping_failed, dumping_last, dumping_on}
use Rattle.cs_node_lines.proofs.working.dump.put_tables.Goals as goal

pub returns-in-Err-clause-turned : goal.returns-in-Err-clause-turned
returns-in-Err-clause-turned g c =
    dumping_failed g.S.RowStore c.loop-table.table (string_bytes c.args.text.now) (string_bytes c.loop-table.text)
    (λ m. Unit {0}) (λ m. Unit {0}) c.args.replica.now c.loop-table.replica c.put_table.new.replica c.loop-table.invariant.1 c.loop-table.invariant.0 c.in-Err.ensures.turned (λ m. tt)

pub returns-in-Err-clause-counts : goal.returns-in-Err-clause-counts
returns-in-Err-clause-counts g c =
    counts_behind g.S.RowStore c.args.replica.now c.loop-table.replica c.put_table.new.replica c.loop-table.invariant.2 c.in-Err.ensures.counts

pub loop-table-preserved : goal.loop-table-preserved
loop-table-preserved g c = (
  dumping_on g.S.RowStore c.loop-table.table (string_bytes c.args.text.now) (string_bytes c.loop-table.text) (string_bytes c.put_table.new.text)
      c.args.replica.now c.loop-table.replica c.put_table.new.replica c.loop-table.invariant.1 c.loop-table.invariant.0 c.in-Ok.ensures.turned,
  c.in-Ok.ensures.catalog ∙ c.loop-table.invariant.1,
  omega (arith, c.loop-table.invariant.2, c.in-Ok.ensures.counts.later),
)

pub returns-clause-turned : goal.returns-clause-turned
returns-clause-turned g c =
    let all : c.loop-table.table ≡ length c.args.replica.now.catalog = grind (arith, common_steps) in
    let none : drop c.loop-table.table c.args.replica.now.catalog ≡ [] = rw all (drop_all c.args.replica.now.catalog) in
    dumping_last g.S.RowStore c.loop-table.table (string_bytes c.args.text.now) (string_bytes c.loop-table.text)
    c.args.replica.now c.loop-table.replica none c.loop-table.invariant.0
