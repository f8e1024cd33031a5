-- The laws of requests and answers.
use Rattle.std.specs.Prelude.{◌≡◌, ◌≢◌, ℕ, ◌<◌, ◌^◌, List, [], ◌++◌, length, map, All, Result}
use Rattle.cs_store.specs.declared.log.entry.LogEntry.{LogEntry}
use Rattle.cs_varint.specs.Bytes.{AreBytes}
use Rattle.cs_wire.specs.Answers.{FitsAnswer, IsAnswerFault, ReadsAnswer, answer_spelling}
use Rattle.cs_wire.specs.Requests.{Asked, FitsRequest, IsRequestFault, ReadsRequest, request_spelling}
use Rattle.cs_wire.specs.Told.{FitsMessage, told_entry}
use Rattle.cs_wire.specs.declared.answer.Answer.{Answer}
use Rattle.cs_wire.specs.declared.answer.Answer.TheVariants.{Entries}
use Rattle.cs_wire.specs.declared.fault.WireFault.{WireFault}
use Rattle.cs_wire.specs.declared.fault.WireFault.TheVariants.{Truncated}

-- bytes ask one thing: a request that they spell, or the one fault that they have
abbrev pub OneRequest : Type 0
OneRequest =
    (bytes : List ℕ) (one other : Result Asked WireFault) → ReadsRequest bytes one → ReadsRequest bytes other
    → one ≡ other

-- bytes ask something: a push, a pull, a catch, a wider table, or nothing, where they have a fault
abbrev pub AsksSomething : Type 0
AsksSomething = (bytes : List ℕ) → AreBytes bytes → (asked : Result Asked WireFault) × ReadsRequest bytes asked

-- bytes that a request begins with, and that end before it does, are Truncated
abbrev pub FrontOfRequest : Type 0
FrontOfRequest =
    (asked : Asked) (bytes rest : List ℕ) → FitsRequest asked → AreBytes bytes → rest ≢ []
    → request_spelling asked ≡ bytes ++ rest → IsRequestFault Truncated bytes

-- bytes tell one thing: an answer that they spell, or the one fault that they have
abbrev pub OneToldAnswer : Type 0
OneToldAnswer =
    (bytes : List ℕ) (one other : Result Answer WireFault) → ReadsAnswer bytes one → ReadsAnswer bytes other
    → one ≡ other

-- bytes tell something: an answer, or nothing, where they have a fault
abbrev pub TellsSomething : Type 0
TellsSomething = (bytes : List ℕ) → AreBytes bytes → (told : Result Answer WireFault) × ReadsAnswer bytes told

-- bytes that an answer begins with, and that end before it does, are Truncated
abbrev pub FrontOfAnswer : Type 0
FrontOfAnswer =
    (answer : Answer) (bytes rest : List ℕ) → FitsAnswer answer → AreBytes bytes → rest ≢ []
    → answer_spelling answer ≡ bytes ++ rest → IsAnswerFault Truncated bytes

-- the numbers of an entry of a log are in range
abbrev pub HasNumbersInRange : LogEntry → Type 0
HasNumbersInRange entry = (entry.origin < 2 ^ 32) × (entry.number < 2 ^ 64)

-- entries of a log that fit a message are an answer: their bytes are read as what was told of them
abbrev pub ToldAreRead : Type 0
ToldAreRead =
    (first : ℕ) (log : List LogEntry) → first < 2 ^ 64 → length log < 2 ^ 32 → All FitsMessage log
    → All HasNumbersInRange log → FitsAnswer (Entries first (map told_entry log))
