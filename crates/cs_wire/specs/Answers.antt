-- Answers: how each is spelled in bytes, and what is wrong with bytes that spell none.
use Rattle.std.specs.Prelude.{◌≡◌, ◌≢◌, ◌⊎◌, ℕ, ◌<◌, ◌^◌, List, [], ◌∷◌, ◌++◌, length, Result, Ok, Err}
use Rattle.std.specs.List.{flat_map, AllByRecursion}
use Rattle.cs_wire.specs.Entries.{ToldEntry, FitsEntry, IsFaultOfEntries, entry_spelling}
use Rattle.cs_wire.specs.Numbers.{four_bytes, eight_bytes}
use Rattle.cs_wire.specs.declared.answer.Answer.{Answer}
use Rattle.cs_wire.specs.declared.answer.Answer.TheVariants.{Short, Entries, Merged}
use Rattle.cs_wire.specs.declared.fault.WireFault.{WireFault}
use Rattle.cs_wire.specs.declared.fault.WireFault.TheVariants.{Truncated, BadTag, TooLong, BadKind, NotUtf8}
use Rattle.cs_wire.specs.declared.short_answer.ShortAnswer.{ShortAnswer}
use Rattle.cs_wire.specs.declared.short_answer.ShortAnswer.TheVariants.{Accepted, Stale, Refused}

-- ---- how each is spelled

abbrev pub accepted_tag : ℕ
accepted_tag = 17

abbrev pub stale_tag : ℕ
stale_tag = 18

abbrev pub refused_tag : ℕ
refused_tag = 19

abbrev pub entries_tag : ℕ
entries_tag = 20

abbrev pub merged_tag : ℕ
merged_tag = 21

-- the numbers of Accepted, and what follows them
abbrev pub accepted_numbers : ℕ → ℕ → ℕ → List ℕ → List ℕ
accepted_numbers origin number version rest =
    four_bytes origin ++ (eight_bytes number ++ (eight_bytes version ++ rest))

-- the answers that are a few numbers, and what follows one. A push was taken: its origin, its number, and the version that it made; it
-- came too late: the newest version; a refusal: its code
abbrev pub short_before : ShortAnswer → List ℕ → List ℕ
short_before (Accepted origin number version) rest = accepted_tag ∷ accepted_numbers origin number version rest
short_before (Stale newest) rest = stale_tag ∷ (eight_bytes newest ++ rest)
short_before (Refused code) rest = refused_tag ∷ code ∷ rest

abbrev pub short_spelling : ShortAnswer → List ℕ
short_spelling answer = short_before answer []

-- the numbers before entries, and what follows them: the first one's place in the log, and how many there are
abbrev pub entries_numbers : ℕ → ℕ → List ℕ → List ℕ
entries_numbers first count rest = eight_bytes first ++ (four_bytes count ++ rest)

-- a tag, the numbers, and the entries
abbrev pub entries_spelling : ℕ → List ToldEntry → List ℕ
entries_spelling first entries =
    entries_tag ∷ entries_numbers first (length entries) (flat_map entry_spelling entries)

-- the numbers before a changeset that entries make together, and what follows them. They are who asked, the first entry's
-- place in the log, the place behind the last one, and how many bytes the changeset has
abbrev pub merged_numbers : ℕ → ℕ → ℕ → ℕ → List ℕ → List ℕ
merged_numbers origin first next size rest =
    four_bytes origin ++ (eight_bytes first ++ (eight_bytes next ++ (four_bytes size ++ rest)))

-- a tag, the numbers, and the changeset behind its length
abbrev pub merged_spelling : ℕ → ℕ → ℕ → List ℕ → List ℕ
merged_spelling origin first next changeset = merged_tag ∷ merged_numbers origin first next (length changeset) changeset

abbrev pub answer_spelling : Answer → List ℕ
answer_spelling (Short answer) = short_spelling answer
answer_spelling (Entries first entries) = entries_spelling first entries
answer_spelling (Merged origin first next changeset) = merged_spelling origin first next changeset

-- ---- what can be spelled

abbrev pub FitsShort : ShortAnswer → Type 0
FitsShort (Accepted origin number version) = (origin < 2 ^ 32) × (number < 2 ^ 64) × (version < 2 ^ 64)
FitsShort (Stale newest) = newest < 2 ^ 64
FitsShort (Refused code) = code < 256

-- the numbers before entries are in range
abbrev pub FitsEntriesNumbers : ℕ → ℕ → Type 0
FitsEntriesNumbers first count = (first < 2 ^ 64) × (count < 2 ^ 32)

-- the numbers before a changeset that entries make together are in range
pub record FitsMerged (origin first next size : ℕ) : Type 0 where
  pub origin_fits : origin < 2 ^ 32
  pub first_fits : first < 2 ^ 64
  pub next_fits : next < 2 ^ 64
  pub size_fits : size < 2 ^ 32

abbrev pub FitsAnswer : Answer → Type 0
FitsAnswer (Short answer) = FitsShort answer
FitsAnswer (Entries first entries) = FitsEntriesNumbers first (length entries) × AllByRecursion FitsEntry entries
FitsAnswer (Merged origin first next changeset) = FitsMerged origin first next (length changeset)

-- ---- what is wrong with bytes that spell none

-- the front of an answer: before its tag, within its numbers, or within its changeset
abbrev pub IsPartialAnswer : List ℕ → Type 0
IsPartialAnswer bytes =
    (bytes ≡ [])
    ⊎ ((rest : List ℕ) × (bytes ≡ accepted_tag ∷ rest) × (length rest < 20))
    ⊎ ((rest : List ℕ) × (bytes ≡ stale_tag ∷ rest) × (length rest < 8))
    ⊎ (bytes ≡ refused_tag ∷ [])
    ⊎ ((rest : List ℕ) × (bytes ≡ entries_tag ∷ rest) × (length rest < 12))
    ⊎ ((rest : List ℕ) × (bytes ≡ merged_tag ∷ rest) × (length rest < 24))
    ⊎ ((origin : ℕ) × (first : ℕ) × (next : ℕ) × (size : ℕ) × (part : List ℕ) × FitsMerged origin first next size
    × (bytes ≡ merged_tag ∷ merged_numbers origin first next size part) × (length part < size))

-- an answer but entries, and bytes behind it
abbrev pub IsLongerAnswer : List ℕ → Type 0
IsLongerAnswer bytes =
    ((answer : ShortAnswer) × (more : List ℕ) × FitsShort answer × (bytes ≡ short_before answer more) × (0 < length more))
    ⊎ ((origin : ℕ) × (first : ℕ) × (next : ℕ) × (size : ℕ) × (more : List ℕ) × FitsMerged origin first next size
    × (bytes ≡ merged_tag ∷ merged_numbers origin first next size more) × (size < length more))

-- the numbers before entries, and a fault behind them, where so many entries are to stand
abbrev pub HasEntriesFault : WireFault → List ℕ → Type 0
HasEntriesFault fault bytes =
    (first : ℕ) × (count : ℕ) × (behind : List ℕ) × FitsEntriesNumbers first count
    × (bytes ≡ entries_tag ∷ entries_numbers first count behind) × IsFaultOfEntries count fault behind

-- no answer has this tag
pub record IsNoTag (tag : ℕ) : Type 0 where
  pub no_accepted : tag ≢ accepted_tag
  pub no_stale : tag ≢ stale_tag
  pub no_refused : tag ≢ refused_tag
  pub no_entries : tag ≢ entries_tag
  pub no_merged : tag ≢ merged_tag

abbrev pub IsAnswerFault : WireFault → List ℕ → Type 0
IsAnswerFault Truncated bytes = IsPartialAnswer bytes ⊎ HasEntriesFault Truncated bytes
IsAnswerFault BadTag bytes = (tag : ℕ) × (rest : List ℕ) × (bytes ≡ tag ∷ rest) × IsNoTag tag
IsAnswerFault TooLong bytes = IsLongerAnswer bytes ⊎ HasEntriesFault TooLong bytes
IsAnswerFault BadKind bytes = HasEntriesFault BadKind bytes
IsAnswerFault NotUtf8 bytes = ⊥

-- ---- what reading gives

-- the answer that the bytes spell, or their fault
abbrev pub ReadsAnswer : List ℕ → Result Answer WireFault → Type 0
ReadsAnswer bytes (Ok answer) = FitsAnswer answer × (bytes ≡ answer_spelling answer)
ReadsAnswer bytes (Err fault) = IsAnswerFault fault bytes
