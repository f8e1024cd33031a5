-- Bytes in pieces of memory.
use Rattle.std.specs.Prelude.{◌≡◌, ◌<◌, ◌≤◌, ◌++◌, ◌∷◌, [], ℕ, List, length, map, slice_index_or}
use Rattle.std.specs.Global.{Vec}

-- the pieces: those that are full, and the last one
abbrev pub pieces_of : List (Vec ℕ) → List ℕ → List (List ℕ)
pieces_of full last = map (λ piece. piece.items) full ++ last ∷ []

-- no piece is gone, and each has what it had, and perhaps more behind it
abbrev pub HaveGrown : List (List ℕ) → List (List ℕ) → Type 0
HaveGrown old new =
    (length old ≤ length new)
    × ((at : ℕ) → at < length old → (more : List ℕ) × (slice_index_or new at [] ≡ slice_index_or old at [] ++ more))
