-- What has been read of an input whose lines spell changesets.
use Rattle.std.specs.Prelude.{◌≡◌, ◌⊎◌, ℕ, List, [], ◌∷◌, ◌++◌, length, Option, Some, None}
use Rattle.std.specs.Global.{Vec}
use Rattle.std.specs.List.{AllZip}
use Rattle.std.specs.Io.KnownBytes.{IsAtEnd, Keeps}
use Rattle.cs_change.specs.Spelling.{FitsChangeset, changeset_spelling}
use Rattle.cs_change.specs.declared.group.Group.{Group}
use Rattle.cs_lines.specs.Reading.{AreAllBefore, AreTaken, TakesLine}
use Rattle.cs_lines.specs.Served.{AreAllLines, AreFirstLines}
use Rattle.cs_lines.specs.declared.serve.TheConstants.{ASKS}
use Rattle.cs_changeset.specs.Reading.{IsChangesetFault}
use Rattle.cs_tools.specs.Faults.{AreBadBytes, IsFailure, IsNoHex}
use Rattle.cs_tools.specs.SpelledLine.{IsHexOf, Spells, TakesNext}
use Rattle.cs_tools.specs.declared.fault.ToolFault.{ToolFault}
use Rattle.cs_tools.specs.declared.fault.ToolFault.TheVariants.{BadHex}

-- the next line was taken, and no byte behind it, and is these bytes in hex; or there was no line, and none was taken
abbrev pub TakesBytes : Option (Vec ℕ) → Option (List ℕ) → Option (List ℕ) → Type 0
TakesBytes None old new = IsAtEnd old × Keeps old new
TakesBytes (Some bytes) old new = (line : List ℕ) × TakesLine [] old new line × IsHexOf line bytes.items

-- the same, where no line counts as the empty one
abbrev pub TakesNextBytes : List ℕ → Option (List ℕ) → Option (List ℕ) → Type 0
TakesNextBytes bytes old new = (line : List ℕ) × TakesNext old new line × IsHexOf line bytes

-- why no bytes were taken where there is a next line: want of memory, a failed read, or the line is no hex
abbrev pub IsNotTaken : (List ℕ → Type 0) → Type 0 → ToolFault → Type 0
IsNotTaken Takes read_failed told = IsFailure read_failed told ⊎ ((line : List ℕ) × Takes line × IsNoHex line × (told ≡ BadHex))

-- the lines are these bytes in hex, in order
abbrev pub AreHexOf : List (List ℕ) → List (Vec ℕ) → Type 0
AreHexOf lines inputs = AllZip (λ line bytes. IsHexOf line bytes.items) lines inputs

-- the lines that were taken are these bytes in hex
abbrev pub AreRead : Option (List ℕ) → Option (List ℕ) → List (Vec ℕ) → Type 0
AreRead input left inputs = (lines : List (List ℕ)) × AreTaken input left lines × AreHexOf lines inputs

-- each of the bytes spell a changeset, in order
abbrev pub SpellAll : List (Vec ℕ) → List (List Group) → Type 0
SpellAll inputs changesets =
    AllZip (λ bytes groups. Spells FitsChangeset changeset_spelling bytes.items groups) inputs changesets

-- these are the first lines of the input, of which this is left, and why no more are read. There are none, memory was refused, or the next
-- line is no hex. Or a read failed, or lines have no end, and these are all lines before
abbrev pub EndsReading : Type 0 → Option (List ℕ) → Option (List ℕ) → List (List ℕ) → Option ToolFault → Type 0
EndsReading read_failed input left lines None = AreAllLines input lines
EndsReading read_failed input left lines (Some told) =
    AreFirstLines input lines
    × (IsFailure (AreAllBefore input left lines × (read_failed ⊎ (length lines ≡ ASKS))) told
    ⊎ ((line : List ℕ) × AreFirstLines input (lines ++ line ∷ []) × IsNoHex line × (told ≡ BadHex)))

-- the lines that were read are these bytes in hex
abbrev pub AreReadUpTo : Type 0 → Option (List ℕ) → Option (List ℕ) → List (Vec ℕ) → Option ToolFault → Type 0
AreReadUpTo read_failed input left inputs ended =
    (lines : List (List ℕ)) × AreHexOf lines inputs × EndsReading read_failed input left lines ended

-- the first of the bytes that spell no changeset have this fault
abbrev pub HasBadInput : ToolFault → List (Vec ℕ) → Type 0
HasBadInput told [] = ⊥
HasBadInput told (bytes ∷ inputs) =
    AreBadBytes IsChangesetFault bytes.items told
    ⊎ ((groups : List Group) × Spells FitsChangeset changeset_spelling bytes.items groups × HasBadInput told inputs)
