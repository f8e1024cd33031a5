use Rattle.std.proofs.Common.{append_assoc, arith}
use Rattle.cs_group.proofs.Walks.{left_at}
use Rattle.cs_group.proofs.numbered.number_all.Goals as goal

pub loop-index-preserved : goal.loop-index-preserved
loop-index-preserved c =
    let left = left_at c.args.changesets.now c.loop-index.index c.index-changesets-index.result (omega arith) c.index-changesets-index.is in
    let so_far = rw left at c.loop-index.invariant in
    let grown = rw c.as_slice.ensures at c.in_ok-number_groups.ensures in
    rw (grown, append_assoc) so_far
