-- Entries as an answer tells them: how each is spelled in bytes, and what is wrong where one is to stand.
use Rattle.std.specs.Prelude.{◌≡◌, ◌⊎◌, ℕ, ◌<◌, ◌≤◌, ◌^◌, List, [], ◌∷◌, ◌++◌, length, Result, Ok, Err}
use Rattle.std.specs.List.{flat_map, AllByRecursion}
use Rattle.cs_wire.specs.Numbers.{four_bytes, eight_bytes}
use Rattle.cs_wire.specs.declared.fault.WireFault.{WireFault}
use Rattle.cs_wire.specs.declared.fault.WireFault.TheVariants.{Truncated, BadTag, TooLong, BadKind, NotUtf8}

-- the kind of what it does, whose push it was, the number that its replica gave it, and the bytes of what it does
pub record ToldEntry : Type 0 where
  pub kind : ℕ
  pub origin : ℕ
  pub number : ℕ
  pub body : List ℕ

-- the kinds of entries: 0 is one that does a changeset, 1 one that widens a table
abbrev pub kinds : ℕ
kinds = 2

-- the numbers of an entry, and what follows them
abbrev pub entry_numbers : ℕ → ℕ → ℕ → List ℕ → List ℕ
entry_numbers origin number size rest = four_bytes origin ++ (eight_bytes number ++ (four_bytes size ++ rest))

-- its kind, its origin, its number, and what it does behind its length
abbrev pub entry_spelling : ToldEntry → List ℕ
entry_spelling entry = entry.kind ∷ entry_numbers entry.origin entry.number (length entry.body) entry.body

-- its numbers are in range
abbrev pub FitsEntryNumbers : ℕ → ℕ → ℕ → Type 0
FitsEntryNumbers origin number size = (origin < 2 ^ 32) × (number < 2 ^ 64) × (size < 2 ^ 32)

-- it is of a kind that there is, and its numbers are in range
abbrev pub FitsEntry : ToldEntry → Type 0
FitsEntry entry = (entry.kind < kinds) × FitsEntryNumbers entry.origin entry.number (length entry.body)

-- ---- what is wrong where an entry is to stand

-- the front of an entry: within its numbers, or within what it does
abbrev pub IsPartialEntry : List ℕ → Type 0
IsPartialEntry bytes =
    (bytes ≡ [])
    ⊎ ((kind : ℕ) × (rest : List ℕ) × (kind < kinds) × (bytes ≡ kind ∷ rest) × (length rest < 16))
    ⊎ ((kind : ℕ) × (origin : ℕ) × (number : ℕ) × (size : ℕ) × (part : List ℕ) × (kind < kinds) × FitsEntryNumbers origin number size
    × (bytes ≡ kind ∷ entry_numbers origin number size part) × (length part < size))

abbrev pub IsEntryFault : WireFault → List ℕ → Type 0
IsEntryFault Truncated bytes = IsPartialEntry bytes
IsEntryFault BadKind bytes = (kind : ℕ) × (rest : List ℕ) × (bytes ≡ kind ∷ rest) × (kinds ≤ kind)
IsEntryFault BadTag bytes = ⊥
IsEntryFault TooLong bytes = ⊥
IsEntryFault NotUtf8 bytes = ⊥

-- whole entries stand at the front, before the rest
pub record StandBefore (entries : List ToldEntry) (rest bytes : List ℕ) : Type 0 where
  pub fit : AllByRecursion FitsEntry entries
  pub are : bytes ≡ flat_map entry_spelling entries ++ rest

-- so many entries are to be the whole of the bytes: fewer stand whole, and the next has a fault
pub record IsFaultOfNext (count : ℕ) (fault : WireFault) (bytes : List ℕ) : Type 0 where
  pub before : List ToldEntry
  pub rest : List ℕ
  pub fewer : length before < count
  pub stand : StandBefore before rest bytes
  pub wrong : IsEntryFault fault rest

-- or all stand whole, and bytes behind them
pub record HaveMoreBehind (count : ℕ) (bytes : List ℕ) : Type 0 where
  pub entries : List ToldEntry
  pub more : List ℕ
  pub all : length entries ≡ count
  pub stand : StandBefore entries more bytes
  pub some : 0 < length more

abbrev pub IsFaultOfEntries : ℕ → WireFault → List ℕ → Type 0
IsFaultOfEntries count Truncated bytes = IsFaultOfNext count Truncated bytes
IsFaultOfEntries count BadKind bytes = IsFaultOfNext count BadKind bytes
IsFaultOfEntries count TooLong bytes = HaveMoreBehind count bytes
IsFaultOfEntries count BadTag bytes = ⊥
IsFaultOfEntries count NotUtf8 bytes = ⊥

-- ---- what reading gives

-- this entry stands at the front, before the rest
abbrev pub StandsBefore : ToldEntry → List ℕ → List ℕ → Type 0
StandsBefore entry rest bytes = FitsEntry entry × (bytes ≡ entry_spelling entry ++ rest)

-- these entries, so many, are the whole of the bytes; or the fault of these
abbrev pub FindsEntries : ℕ → List ℕ → Result (List ToldEntry) WireFault → Type 0
FindsEntries count bytes (Ok entries) =
    (length entries ≡ count) × AllByRecursion FitsEntry entries × (bytes ≡ flat_map entry_spelling entries)
FindsEntries count bytes (Err fault) = IsFaultOfEntries count fault bytes

-- so many entries are the whole of the bytes, or the fault of these
abbrev pub AreEntries : ℕ → List ℕ → Result (Unit {0}) WireFault → Type 0
AreEntries count bytes (Ok done) = (entries : List ToldEntry) × FindsEntries count bytes (Ok entries)
AreEntries count bytes (Err fault) = IsFaultOfEntries count fault bytes
