use Rattle.std.proofs.Common.{◌≡◌, ◌≤◌, ℕ, length, take, drop}
use Rattle.cs_normal.specs.Joined.{joined}
use Rattle.cs_normal.proofs.pieces.put_pieces.Given as goal

-- the pieces before this one stand in front, and behind them all stays
abbrev pub invariant-loop-piece : goal.invariant-loop-piece
invariant-loop-piece l =
    (length l.out ≡ length l.fn.out)
    × (l.at ≡ length (joined (take l.piece-index l.pieces)))
    × (take l.at l.out ≡ joined (take l.piece-index l.pieces))
    × ((behind : ℕ) → l.at ≤ behind → drop behind l.out ≡ drop behind l.fn.out)
