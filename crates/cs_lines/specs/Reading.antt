-- What reading a line takes off an input, where the input's bytes are known.
use Rattle.std.specs.Prelude.{◌≡◌, ◌≢◌, ◌⊎◌, ◌<◌, ℕ, Bool, true, false, Option, Some, None, List, [], ◌∷◌, ◌++◌, All, IfSome, length}
use Rattle.std.specs.Io.{StopsAt}
use Rattle.std.specs.Io.KnownBytes.{Consumes, IsAtEnd, Keeps}
use Rattle.cs_lines.specs.declared.line.LineRead.{LineRead}
use Rattle.cs_lines.specs.declared.line.LineRead.TheVariants.{Whole, Skipped, End}
use Rattle.cs_lines.specs.declared.streams.Skip.{Skip}
use Rattle.cs_lines.specs.declared.streams.Skip.TheVariants.{Ended, Unended, Nothing}
use Rattle.cs_lines.specs.Lines.{ended, ended_part, lines_of}

-- the bytes are the line, the line feed that ends it, and the rest; or the line alone, and there is no rest
abbrev pub IsCut : List ℕ → List ℕ → List ℕ → Type 0
IsCut bytes line rest = (bytes ≡ line ++ 10 ∷ rest) ⊎ ((bytes ≡ line) × (rest ≡ []))

-- the line was the first of `front` and what was left, and what stands behind it is left
abbrev pub TakesLine : List ℕ → Option (List ℕ) → Option (List ℕ) → List ℕ → Type 0
TakesLine front None new line = Unit {0}
TakesLine front (Some input) new line =
    (rest : List ℕ) × (new ≡ Some rest) × (lines_of (front ++ input) ≡ line ∷ lines_of rest)
    × IsCut (front ++ input) line rest

-- a line was read, or skipped, or there was none
abbrev pub HasRead : LineRead → Option (List ℕ) → Option (List ℕ) → List ℕ → Type 0
HasRead Whole old new line = TakesLine [] old new line
HasRead Skipped old new line = (skipped : List ℕ) × TakesLine [] old new skipped
HasRead End old new line = IsAtEnd old × Keeps old new

-- of lines that a line feed ends: one was read or skipped, or there was none
abbrev pub HasReadEnded : Bool → LineRead → Option (List ℕ) → Option (List ℕ) → List ℕ → Type 0
HasReadEnded true read old new line = HasRead read old new line
HasReadEnded false read old new line = IsAtEnd old × Keeps old new

-- how the first line of some bytes ends
abbrev pub Skips : Skip → List ℕ → Type 0
Skips Ended input = 0 < length (ended_part input)
Skips Unended input = (0 < length input) × (ended_part input ≡ [])
Skips Nothing input = input ≡ []

-- a read, where the bytes of `front` had been read before
abbrev pub HasSkipped : LineRead → List ℕ → Option (List ℕ) → Option (List ℕ) → Type 0
HasSkipped Whole front old new = ⊥
HasSkipped Skipped front old new = (skipped : List ℕ) × TakesLine front old new skipped
HasSkipped End front old new = (front ≡ []) × IsAtEnd old × Keeps old new

-- of lines that a line feed ends: the one of `front` was skipped, or there was none
abbrev pub HasSkippedEnded : Bool → LineRead → List ℕ → Option (List ℕ) → Option (List ℕ) → Type 0
HasSkippedEnded true read front old new =
    HasSkipped read front (ended old) (ended new) × IfSome old (λ rest. ended_part (front ++ rest) ≡ front ++ ended_part rest)
HasSkippedEnded false read front old new = All (λ byte. byte ≢ 10) front × IsAtEnd (ended old) × Keeps (ended old) (ended new)

-- these lines were taken, one after another, and the rest of the lines is left
abbrev pub AreTaken : Option (List ℕ) → Option (List ℕ) → List (List ℕ) → Type 0
AreTaken None new lines = Unit {0}
AreTaken (Some input) new lines =
    (rest : List ℕ) × (new ≡ Some rest) × (lines_of input ≡ lines ++ lines_of rest)

-- what is gone is of the first line: there is no line feed in it, but as its last byte
abbrev pub StaysInLine : Option (List ℕ) → Option (List ℕ) → Type 0
StaysInLine old new = (gone : List ℕ) × Consumes old new gone × StopsAt gone 10

-- these are all lines before the one within which the reader stopped
abbrev pub AreAllBefore : Option (List ℕ) → Option (List ℕ) → List (List ℕ) → Type 0
AreAllBefore input new lines = (left : Option (List ℕ)) × AreTaken input left lines × StaysInLine left new
