-- What one turn of a run comes to.
use Rattle.std.specs.Prelude.{◌≡◌, ℕ, Option, Result, Ok, Err, List, []}
use Rattle.std.specs.Io.KnownBytes.{Appends, IsAtEnd}
use Rattle.cs_lines.specs.declared.serve.Stop.{Stop}
use Rattle.cs_lines.specs.declared.serve.Stop.TheVariants.{Read, Write}
use Rattle.cs_lines.specs.declared.serve.Turn.{Turn}
use Rattle.cs_lines.specs.declared.serve.Turn.TheVariants.{Answered, Ended}
use Rattle.cs_lines.specs.Lines.{hex_line}
use Rattle.cs_lines.specs.Reading.{StaysInLine, TakesLine}
use Rattle.cs_lines.specs.Served.{Answers}
use Rattle.cs_lines.specs.Writing.{AppendsFront}

-- a line was taken and answered, and its answer written, or a front of it where the writer failed. At the input's end
-- nothing happened. Where the reader failed a part of the line is gone, and nothing else happened
abbrev pub TakesTurn : {State : Type 0} → Result Turn Stop → (State → List ℕ → List ℕ → State → Type 0) → (State → State → Type 0)
    → State → State → Option (List ℕ) → Option (List ℕ) → Option (List ℕ) → Option (List ℕ) → Type 0
TakesTurn (Ok Answered) serves stays old new input rest before after =
    (line : List ℕ) × (answer : List ℕ) × TakesLine [] input rest line
    × Answers serves stays old line answer new × Appends before after (hex_line answer)
TakesTurn (Ok Ended) serves stays old new input rest before after =
    (new ≡ old) × IsAtEnd input × (after ≡ before)
TakesTurn (Err Read) serves stays old new input rest before after = (new ≡ old) × (after ≡ before) × StaysInLine input rest
TakesTurn (Err Write) serves stays old new input rest before after =
    (line : List ℕ) × (answer : List ℕ) × TakesLine [] input rest line
    × Answers serves stays old line answer new × AppendsFront before after (hex_line answer)

-- the side that stopped the run has failed
abbrev pub HasFailed : Stop → Type 0 → Type 0 → Type 0
HasFailed Read reader writer = reader
HasFailed Write reader writer = writer
