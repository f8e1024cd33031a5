use Rattle.std.proofs.Common.{◌≡◌, ◌+◌, refl, ap, length, arith}
use Rattle.cs_tasks.specs.Tasks.{one_if_none, skipped, table_of}
use Rattle.cs_tasks.proofs.Groups.{count_turn, none_counts, one_counts}
use Rattle.cs_tasks.proofs.only.count_skipped.Goals.{then-is_none, else-is_none}
use Rattle.cs_tasks.proofs.only.count_skipped.Goals as goal

pub loop-group-init : goal.loop-group-init
unfolding skipped
loop-group-init c = (refl, omega arith)

pub loop-group-preserved : goal.loop-group-preserved
loop-group-preserved c =
    let lent = c.as_slice-group-items.ensures in
    let is = rw lent at c.group-item.is in
    let long = ap length lent in
    let place = table_of c.group-item.result c.args.catalog.now in
    let counted : c.if-is_none.skipped ≡ c.loop-group.skipped + one_if_none place =
    elim c.if-is_none.branch [
      | then-is_none w ↦
          let one = none_counts (λ found. found.0) c.find_table.result place _ c.find_table.ensures.place c.is_none.ensures w.if-is_none.true in
          omega (arith, w.skipped-is, one)
      | else-is_none w ↦
          let one = one_counts (λ found. found.0) c.find_table.result place _ c.find_table.ensures.place c.is_none.ensures w.if-is_none.false in
          omega (arith, w.skipped-is, one)
    ] in
    count_turn c.args.catalog.now c.args.changeset.now c.loop-group.group-index _ c.loop-group.skipped _ (omega (arith, long, c.loop-group-test.true)) is c.loop-group.invariant.0 c.loop-group.invariant.1 counted
