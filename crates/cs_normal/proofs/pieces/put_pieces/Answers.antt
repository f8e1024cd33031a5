use Rattle.std.proofs.Common.{◌+◌, ap, arith, get_or, length, take}
use Rattle.std.proofs.lemmas.List.{length-append}
use Rattle.cs_normal.specs.Joined.{joined}
use Rattle.cs_normal.proofs.Joined.{joined_more, joined_le}
use Rattle.cs_normal.proofs.pieces.put_pieces.Goals as goal

pub put-at-requires : goal.put-at-requires
put-at-requires c =
    let pieces = c.args.pieces.now in
    let at = c.loop-piece.piece-index in
    let piece = c.piece-item.result in
    let more = ap length (joined_more pieces at piece c.loop-piece-test.true) in
    let split = length-append (joined (take at pieces)) (get_or pieces at piece) in
    omega (arith, ap length c.piece-item.is, more, split, joined_le pieces (at + 1), c.loop-piece.invariant.0, c.loop-piece.invariant.1, c.requires)
