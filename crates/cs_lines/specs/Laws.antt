-- The laws of lines and runs: lines are taken one after another, and have one list of answers.
use Rattle.std.specs.Prelude.{◌≡◌, ◌≢◌, ◌⊎◌, ℕ, true, List, [], ◌∷◌, ◌++◌, All, Option, Some}
use Rattle.std.specs.Io.BufRead.{ends_with_byte}
use Rattle.std.specs.Io.KnownBytes.{IsAtEnd}
use Rattle.std.specs.List.{AllByRecursion}
use Rattle.cs_lines.specs.Lines.{ended_part, lines_of}
use Rattle.cs_lines.specs.Reading.{AreTaken, TakesLine}
use Rattle.cs_lines.specs.Served.{Answers, AnswersAll, AreAllLines, no_memory}

-- before the first line none is taken
abbrev pub NoneTaken : Type 0
NoneTaken = (input : Option (List ℕ)) → AreTaken input input []

-- one line more is taken
abbrev pub OneMoreTaken : Type 0
OneMoreTaken = (input left after : Option (List ℕ)) (lines : List (List ℕ)) (line : List ℕ) → AreTaken input left lines
    → TakesLine [] left after line → AreTaken input after (lines ++ line ∷ [])

-- at the end all are taken
abbrev pub AllTaken : Type 0
AllTaken = (input left : Option (List ℕ)) (lines : List (List ℕ)) → AreTaken input left lines
    → IsAtEnd left → AreAllLines input lines

-- there is one: a next line can be taken off an input, or it is at its end
abbrev pub LineOrEnd : Type 0
LineOrEnd =
    (input : List ℕ)
    → ((line : List ℕ) × (rest : List ℕ) × TakesLine [] (Some input) (Some rest) line) ⊎ IsAtEnd (Some input)

-- an input that ends with a line feed, or holds nothing, is its own ended part
abbrev pub EndedWhole : Type 0
EndedWhole = (input : List ℕ) → (input ≡ []) ⊎ (ends_with_byte 10 input ≡ true) → ended_part input ≡ input

-- an ended part ends with a line feed, or holds nothing
abbrev pub EndedByFeed : Type 0
EndedByFeed = (input : List ℕ) → (ended_part input ≡ []) ⊎ (ends_with_byte 10 (ended_part input) ≡ true)

-- it is a front of its input: no line feed stands behind it, and its lines are the first ones
abbrev pub EndedLines : Type 0
EndedLines = (input : List ℕ) → (rest : List ℕ) × (input ≡ ended_part input ++ rest) × All (λ x. x ≢ 10) rest
    × (lines_of input ≡ lines_of (ended_part input) ++ lines_of rest)

-- at this state each request has one answer, and one state after it
abbrev pub HasOneAnswer : {State : Type 0} → (State → List ℕ → List ℕ → State → Type 0) → State → Type 0
HasOneAnswer {State} serves old = (request one other : List ℕ) (new next : State)
    → serves old request one new → serves old request other next → (one ≡ other) × (new ≡ next)

-- so it is at each state at which one of these lines can be answered
abbrev pub HasOneAnswerAlong : {State : Type 0} → (State → List ℕ → List ℕ → State → Type 0) → (State → State → Type 0)
    → State → List (List ℕ) → Type 0
HasOneAnswerAlong serves stays old [] = Unit {0}
HasOneAnswerAlong {State} serves stays old (line ∷ lines) = HasOneAnswer serves old
    × ((answer : List ℕ) (mid : State) → Answers serves stays old line answer mid → HasOneAnswerAlong serves stays mid lines)

-- no line was refused for want of memory
abbrev pub AreInMemory : List (List ℕ) → Type 0
AreInMemory answers = AllByRecursion (λ answer. answer ≢ no_memory) answers

-- two lists of answers to the same lines, in which memory was never wanting, are the same, and so are the states
abbrev pub OneRun : {State : Type 0} → (State → List ℕ → List ℕ → State → Type 0) → (State → State → Type 0) → Type 0
OneRun {State} serves stays = (old new next : State) (lines ones others : List (List ℕ))
    → HasOneAnswerAlong serves stays old lines → AreInMemory ones → AreInMemory others
    → AnswersAll serves stays old lines ones new → AnswersAll serves stays old lines others next
    → (ones ≡ others) × (new ≡ next)
