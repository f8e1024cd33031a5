use Rattle.std.proofs.Common.{◌-◌, arith}
use Rattle.std.proofs.lemmas.List.Sorted.{all_adjacent_more}
use Rattle.cs_column_bytes.proofs.Columns.{Agree, agree_if_not, stands}
use Rattle.cs_column_bytes.proofs.headers.neighbours_agree.Goals as goal

pub returns-then-differ_in_order : goal.returns-then-differ_in_order
returns-then-differ_in_order c =
    let differ = c.differ_in_order.ensures.0 c.if-differ_in_order.true in
    (_, _, stands c.args.headers.now (c.loop-at.at - 1) _ (omega arith), stands c.args.headers.now c.loop-at.at _ (omega arith), differ.0, differ.1)

pub loop-at-preserved : goal.loop-at-preserved
loop-at-preserved c =
    all_adjacent_more c.args.headers.now Agree c.loop-at.at (omega arith) c.loop-at.invariant (λ d. agree_if_not c.args.headers.now (c.loop-at.at - 1) c.loop-at.at _ d (omega arith) (omega arith) c.differ_in_order.result c.differ_in_order.ensures c.if-differ_in_order.false)
