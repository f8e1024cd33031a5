-- What a failed write leaves, where the writer's bytes are known.
use Rattle.std.specs.Prelude.{◌≡◌, ℕ, Option, List, [], ◌∷◌, ◌++◌, flat_map}
use Rattle.std.specs.Io.KnownBytes.{Appends}
use Rattle.cs_lines.specs.Lines.{hex_line}

-- the writer holds what it held, and behind it a front of the bytes that it was to take
abbrev pub AppendsFront : Option (List ℕ) → Option (List ℕ) → List ℕ → Type 0
AppendsFront old new owed =
    (front : List ℕ) × (after : List ℕ) × (owed ≡ front ++ after) × Appends old new front

-- the lines of all answers but the last were written, and a front of the last one's
abbrev pub AppendsBroken : Option (List ℕ) → Option (List ℕ) → List (List ℕ) → Type 0
AppendsBroken old new answers =
    (whole : List (List ℕ)) × (last : List ℕ) × (front : List ℕ) × (after : List ℕ)
    × (answers ≡ whole ++ last ∷ []) × (hex_line last ≡ front ++ after)
    × Appends old new (flat_map hex_line whole ++ front)
