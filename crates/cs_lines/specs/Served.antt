-- What a server answers to a list of lines.
use Rattle.std.specs.Prelude.{◌≡◌, ℕ, ◌++◌, ◌⊎◌, Option, Some, None, Result, Ok, Err, List, [], ◌∷◌}
use Rattle.hex.specs.Hex.{decode_of}
use Rattle.hex.specs.declared.error.FromHexError.{FromHexError}
use Rattle.cs_lines.specs.Lines.{lines_of}
use Rattle.cs_lines.specs.declared.serve.Stop.{Stop}
use Rattle.cs_lines.specs.declared.serve.Stop.TheVariants.{Read, Write}

-- the answers to a line that is no hex, and to one for which memory ran out
abbrev pub not_hex : List ℕ
not_hex = 0x13 ∷ 0x16 ∷ []

abbrev pub no_memory : List ℕ
no_memory = 0x13 ∷ 0x01 ∷ []

-- a request is served; what is no hex is refused and changes nothing
abbrev pub AnswersDecoded : {State : Type 0} → (State → List ℕ → List ℕ → State → Type 0)
    → State → Result (List ℕ) FromHexError → List ℕ → State → Type 0
AnswersDecoded serves old (Ok request) answer new = serves old request answer new
AnswersDecoded serves old (Err fault) answer new = (answer ≡ not_hex) × (new ≡ old)

-- the server is as it was where memory ran out: it wasn't asked, or it says in which way it stays
abbrev pub IsLeft : {State : Type 0} → (State → State → Type 0) → State → State → Type 0
IsLeft stays old new = (new ≡ old) ⊎ stays old new

-- a line is answered by what it decodes to, or refused for memory, which leaves the server
abbrev pub Answers : {State : Type 0} → (State → List ℕ → List ℕ → State → Type 0) → (State → State → Type 0)
    → State → List ℕ → List ℕ → State → Type 0
Answers serves stays old line answer new =
    AnswersDecoded serves old (decode_of line) answer new ⊎ ((answer ≡ no_memory) × IsLeft stays old new)

-- the lines get these answers, one after another
abbrev pub AnswersAll : {State : Type 0} → (State → List ℕ → List ℕ → State → Type 0) → (State → State → Type 0)
    → State → List (List ℕ) → List (List ℕ) → State → Type 0
AnswersAll serves stays old [] [] new = new ≡ old
AnswersAll {State} serves stays old (line ∷ lines) (answer ∷ answers) new =
    (mid : State) × Answers serves stays old line answer mid × AnswersAll serves stays mid lines answers new
AnswersAll serves stays old [] (answer ∷ answers) new = ⊥
AnswersAll serves stays old (line ∷ lines) [] new = ⊥

-- these are all lines of the input, where its bytes are known
abbrev pub AreAllLines : Option (List ℕ) → List (List ℕ) → Type 0
AreAllLines None lines = Unit {0}
AreAllLines (Some input) lines = lines ≡ lines_of input

-- these are the first lines of the input, where its bytes are known
abbrev pub AreFirstLines : Option (List ℕ) → List (List ℕ) → Type 0
AreFirstLines None lines = Unit {0}
AreFirstLines (Some input) lines = (rest : List (List ℕ)) × (lines_of input ≡ lines ++ rest)

-- but where the writer failed, what was sent before is sent still
abbrev pub StaysSent : {T : Type 0} → Result T Stop → Type 0 → Type 0 → Type 0
StaysSent (Err Write) before after = Unit {0}
StaysSent (Err Read) before after = before → after
StaysSent (Ok x) before after = before → after
