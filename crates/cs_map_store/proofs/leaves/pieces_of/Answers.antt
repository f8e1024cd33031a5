use Rattle.std.proofs.Common.{arith}
use Rattle.cs_map_store.proofs.Leafing.{pieces_more}
use Rattle.cs_map_store.proofs.leaves.pieces_of.Goals as goal

pub loop-from-preserved : goal.loop-from-preserved
loop-from-preserved c =
    let made = pieces_more c.loop-from.pieces.items c.push.new.self.items c.args.leaf.now c.in_ok-piece.piece c.push_rows.new.self c.loop-from.from c.min-to.result (omega arith) (omega arith)
    c.loop-from.invariant.1 c.loop-from.invariant.2 c.in_ok-piece.ensures c.in_ok-push_rows.ensures c.in_ok-push.ensures.items in
    (omega arith, made.0, made.1)
