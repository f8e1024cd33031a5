-- Lists of bytes one after another.
use Rattle.std.specs.Prelude.{ℕ, ◌++◌, List}
use Rattle.std.specs.Global.{Vec}
use Rattle.std.specs.List.{flat_map}

abbrev pub joined : List (List ℕ) → List ℕ
joined pieces = flat_map (λ piece. piece) pieces

-- pieces that are full, and the last one behind them
abbrev pub in_pieces : List (Vec ℕ) → List ℕ → List ℕ
in_pieces full last = flat_map (λ piece. piece.items) full ++ last
