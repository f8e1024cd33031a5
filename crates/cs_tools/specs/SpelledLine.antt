-- Lines of an input that spell something in hex.
use Rattle.std.specs.Prelude.{◌≡◌, ◌⊎◌, ℕ, List, [], Option, Ok}
use Rattle.std.specs.Io.KnownBytes.{IsAtEnd, Keeps}
use Rattle.hex.specs.Hex.{decode_of}
use Rattle.cs_lines.specs.Reading.{TakesLine}
use Rattle.cs_change.specs.Spelling.{FitsChangeset, changeset_spelling}
use Rattle.cs_change.specs.declared.group.Group.{Group}
use Rattle.cs_blob.specs.Spelling.{FitsBlob, blob_spelling}
use Rattle.cs_blob.specs.declared.blob.BlobGroup.{BlobGroup}

-- the line is these bytes in hex
abbrev pub IsHexOf : List ℕ → List ℕ → Type 0
IsHexOf line bytes = decode_of line ≡ Ok bytes

-- the bytes are the spelling of this thing, which is in range
abbrev pub Spells : {A : Type 0} → (A → Type 0) → (A → List ℕ) → List ℕ → A → Type 0
Spells Fits spelling bytes thing = Fits thing × (bytes ≡ spelling thing)

-- the line is hex, and its bytes are the spelling
abbrev pub SpellsInHex : {A : Type 0} → (A → Type 0) → (A → List ℕ) → List ℕ → A → Type 0
SpellsInHex Fits spelling line thing = Fits thing × IsHexOf line (spelling thing)

abbrev pub SpellsChangeset : List ℕ → List Group → Type 0
SpellsChangeset line groups = SpellsInHex FitsChangeset changeset_spelling line groups

abbrev pub SpellsBlob : List ℕ → List BlobGroup → Type 0
SpellsBlob line blob = SpellsInHex FitsBlob blob_spelling line blob

-- the next line was taken, and no byte behind it; or there was none, none was taken, and it counts as the empty line
abbrev pub TakesNext : Option (List ℕ) → Option (List ℕ) → List ℕ → Type 0
TakesNext old new line = TakesLine [] old new line ⊎ (IsAtEnd old × Keeps old new × (line ≡ []))
