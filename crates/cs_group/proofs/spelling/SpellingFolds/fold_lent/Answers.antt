use Rattle.std.proofs.Common.{None, ap, arith, inr, length}
use Rattle.std.specs.Prelude.{slice_index}
use Rattle.cs_order.specs.Order.{key_at}
use Rattle.cs_group.specs.Steps.Gathering.{lent_changes}
use Rattle.cs_group.specs.Steps.Joining.{fold_places}
use Rattle.cs_group.proofs.Spelled.{put_behind, some_spelled, waits_more}
use Rattle.cs_group.proofs.spelling.SpellingFolds.fold_lent.Goals as goal

pub returns-else-spelling-ge-BLOCK : goal.returns-else-spelling-ge-BLOCK
returns-else-spelling-ge-BLOCK c = λ keys before header so_far is.
    let old = c.args.self.now in
    let group = c.args.group.now in
    waits_more before header so_far (key_at keys (slice_index group 0)) (fold_places c.args.marks.now (lent_changes c.args.changes.now) None group) old.out old.header.items old.some c.fold_group.new.out c.in_ok-fold_group.ensures is

pub returns-in_ok-put_waiting : goal.returns-in_ok-put_waiting
returns-in_ok-put_waiting c = λ keys before header so_far is.
    let old = c.args.self.now in
    let group = c.args.group.now in
    let key = key_at keys (slice_index group 0) in
    let left = fold_places c.args.marks.now (lent_changes c.args.changes.now) None group in
    let waits = waits_more before header so_far key left old.out old.header.items old.some c.fold_group.new.out c.in_ok-fold_group.ensures is in
    let some = some_spelled c.fold_group.new.out (omega (arith, ap length c.spelling.ensures, c.if-spelling-ge-BLOCK.true)) in
    let put = c.in_ok-put_waiting.ensures in
    inr (put_behind before header _ old.out old.header.items c.fold_group.new.out _ _ _ some put.0 put.1 put.2 waits)
