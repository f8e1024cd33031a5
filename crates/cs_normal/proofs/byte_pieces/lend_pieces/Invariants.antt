use Rattle.std.proofs.Common.{◌≡◌, take}
use Rattle.std.specs.List.{flat_map}
use Rattle.cs_normal.specs.Joined.{joined}
use Rattle.cs_normal.proofs.byte_pieces.lend_pieces.Given as goal

abbrev pub invariant-loop-piece : goal.invariant-loop-piece
invariant-loop-piece l = joined l.lent.items ≡ flat_map (λ piece. piece.items) (take l.piece-index l.full)
