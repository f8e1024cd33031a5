-- What `show` writes: what the first line spells, as text; or why there is no such thing (format of this project).
use Rattle.std.specs.Prelude.{◌≡◌, ◌⊎◌, ℕ, List, Option}
use Rattle.cs_change.specs.Spelling.{FitsChangeset, changeset_spelling}
use Rattle.cs_blob.specs.Spelling.{FitsBlob, blob_spelling}
use Rattle.cs_text.specs.Text.{blob_text, changeset_text}
use Rattle.cs_changeset.specs.declared.fault.Fault.{Fault}
use Rattle.cs_lines.specs.Reading.{StaysInLine}
use Rattle.cs_tools.specs.Faults.{IsBadNext, IsFailure}
use Rattle.cs_tools.specs.SpelledLine.{Spells, SpellsInHex, TakesNext}
use Rattle.cs_tools.specs.declared.fault.ToolFault.{ToolFault}

-- the text of what the first line spells, which is in range; the rest of the lines is left
abbrev pub ShowsFirst : {A : Type 0} → (A → Type 0) → (A → List ℕ) → (A → List ℕ)
    → Option (List ℕ) → Option (List ℕ) → List ℕ → Type 0
ShowsFirst {A} Fits spelling text_of old new text = (line : List ℕ) × (thing : A)
    × TakesNext old new line × SpellsInHex Fits spelling line thing × (text ≡ text_of thing)

-- the same of bytes
abbrev pub ShowsBytes : {A : Type 0} → (A → Type 0) → (A → List ℕ) → (A → List ℕ) → List ℕ → List ℕ → Type 0
ShowsBytes {A} Fits spelling text_of bytes text = (thing : A) × Spells Fits spelling bytes thing × (text ≡ text_of thing)

abbrev pub ShowsChangeset : Option (List ℕ) → Option (List ℕ) → List ℕ → Type 0
ShowsChangeset old new text = ShowsFirst FitsChangeset changeset_spelling changeset_text old new text

abbrev pub ShowsBlob : Option (List ℕ) → Option (List ℕ) → List ℕ → Type 0
ShowsBlob old new text = ShowsFirst FitsBlob blob_spelling blob_text old new text

-- why `show` writes nothing, by what is a fault of the format; a read may fail within the first line
abbrev pub RefusesToShow : (Fault → ℕ → List ℕ → Type 0) → Type 0 → Option (List ℕ) → Option (List ℕ) → ToolFault → Type 0
RefusesToShow IsFault read_failed old new told =
    IsFailure (read_failed × StaysInLine old new) told ⊎ IsBadNext IsFault old new told
