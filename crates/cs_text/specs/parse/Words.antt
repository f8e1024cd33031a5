-- The words of a line.
use Rattle.std.specs.Prelude.{ℕ, ◌==◌, if◌then◌else◌, List, [], ◌∷◌, Option, Some, None}

-- a byte in front of the first word
abbrev pub into_first : ℕ → List (List ℕ) → List (List ℕ)
into_first byte [] = (byte ∷ []) ∷ []
into_first byte (word ∷ words) = (byte ∷ word) ∷ words

-- what stands before, between and behind the spaces of a line; a word may be empty
abbrev pub words_in : List ℕ → List (List ℕ)
words_in [] = [] ∷ []
words_in (byte ∷ line) = if byte == 0x20 then [] ∷ words_in line else into_first byte (words_in line)

-- the same of what is left of a line, none behind the last word
abbrev pub words_left : Option (List ℕ) → List (List ℕ)
words_left None = []
words_left (Some line) = words_in line
