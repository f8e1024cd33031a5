use Rattle.std.proofs.Common.{◌≡◌, length, take}
use Rattle.cs_normal.specs.Joined.{joined}
use Rattle.cs_normal.proofs.pieces.len_of.Given as goal

abbrev pub invariant-loop-piece : goal.invariant-loop-piece
invariant-loop-piece l = l.len ≡ length (joined (take l.piece-index l.pieces))
