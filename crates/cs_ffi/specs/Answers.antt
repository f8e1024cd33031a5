-- What the library answers of bytes (profile of this project over SQLite's "changeset format").
use Rattle.std.specs.Prelude.{◌≡◌, ℕ, ◌<◌, ◌≤◌, ◌⊎◌, List, ◌++◌, length, sum_by, drop}
use Rattle.cs_change.specs.declared.group.Group.{Group}
use Rattle.cs_change.specs.Spelling.{FitsChangeset, changeset_spelling}
use Rattle.cs_changeset.specs.Codes.{fault_code}
use Rattle.cs_changeset.specs.Reading.{IsChangesetFault}
use Rattle.cs_changeset.specs.declared.fault.Fault.{Fault}
use Rattle.cs_changeset.specs.declared.fault.CodecFault.{CodecFault}
use Rattle.cs_changeset.specs.declared.fault.CodecFault.TheVariants.{Memory, At}
use Rattle.cs_ffi.specs.declared.answer.Answer.{Answer}

-- a fault is told by number: 0 is none, 1 want of memory, and one of the bytes its code

-- nothing is wrong, and this many changes or bytes
abbrev pub read : ℕ → Answer
read count = record { fault = 0; offset = 0; count = count }

-- memory is wanting
abbrev pub no_memory : Answer
no_memory = record { fault = 1; offset = 0; count = 0 }

-- a fault, and where
abbrev pub refused : Fault → ℕ → Answer
refused fault offset = record { fault = fault_code fault; offset = offset; count = 0 }

abbrev pub answer_of : CodecFault → Answer
answer_of Memory = no_memory
answer_of (At fault offset) = refused fault offset

-- the first fault of the bytes, or want of memory
abbrev pub IsRefusal : List ℕ → Answer → Type 0
IsRefusal bytes answer =
    (answer ≡ no_memory)
    ⊎ ((fault : Fault) × (offset : ℕ) × IsChangesetFault fault offset bytes × (answer ≡ refused fault offset))

-- how many changes the groups have
abbrev pub change_count : List Group → ℕ
change_count groups = sum_by (λ group. length group.changes) groups

-- the bytes spell this changeset
abbrev pub Spell : List ℕ → List Group → Type 0
Spell bytes groups = FitsChangeset groups × (bytes ≡ changeset_spelling groups)

-- the answer of reading alone: the number of the changes that the bytes spell, or why they spell none
abbrev pub AnswersCount : List ℕ → Answer → Type 0
AnswersCount bytes answer =
    ((groups : List Group) × Spell bytes groups × (answer ≡ read (change_count groups))) ⊎ IsRefusal bytes answer

-- what stands in the caller's memory after these bytes were handed over: they in front, if they have room
pub record IsHanded (bytes before after : List ℕ) : Type 0 where
  pub room : length bytes ≤ length before → after ≡ bytes ++ drop (length bytes) before
  pub no_room : length before < length bytes → after ≡ before

-- bytes that were made are handed over and their length told, or nothing is written and it is told why
abbrev pub Hands : (List ℕ → Type 0) → (Answer → Type 0) → List ℕ → List ℕ → Answer → Type 0
Hands AreMade IsRefused before after answer =
    ((bytes : List ℕ) × AreMade bytes × IsHanded bytes before after × (answer ≡ read (length bytes)))
    ⊎ (IsRefused answer × (after ≡ before))

-- the answer of writing again. The spelling of what was read is handed over and its length told. Or nothing is written
-- and it is told why
abbrev pub AnswersAgain : List ℕ → List ℕ → List ℕ → Answer → Type 0
AnswersAgain bytes before after answer =
    ((groups : List Group) × Spell bytes groups × IsHanded (changeset_spelling groups) before after
    × (answer ≡ read (length (changeset_spelling groups))))
    ⊎ (IsRefusal bytes answer × (after ≡ before))

-- this count is told, or memory is wanting
abbrev pub TellsCount : ℕ → Answer → Type 0
TellsCount count answer = (answer ≡ read count) ⊎ (answer ≡ no_memory)

-- this fault is told, or memory is wanting
abbrev pub TellsFault : Fault → ℕ → Answer → Type 0
TellsFault fault offset answer = (answer ≡ refused fault offset) ⊎ (answer ≡ no_memory)

-- the two answers are the same, or one of them tells want of memory
abbrev pub UpToMemory : Answer → Answer → Type 0 → Type 0
UpToMemory one other same = (one ≡ no_memory) ⊎ (other ≡ no_memory) ⊎ same
