-- What a feed tells, of the bytes that came.
use Rattle.std.specs.Prelude.{◌≡◌, ◌≢◌, ℕ, List, [], ◌++◌, Option, IfSome, OnSome, Result, Ok, Err}
use Rattle.std.specs.Io.KnownBytes.{Consumes, IsAtEnd}
use Rattle.cs_change.specs.declared.group.Group.{Group}
use Rattle.cs_change.specs.Spelling.{changeset_spelling, FitsChangeset}
use Rattle.cs_changeset.specs.Reading.{IsChangesetFault}
use Rattle.cs_changeset.specs.declared.fault.Fault.{Fault}
use Rattle.cs_changeset.specs.declared.fault.Fault.TheVariants.{Truncated}
use Rattle.cs_changeset.specs.declared.fault.CodecFault.{CodecFault}
use Rattle.cs_changeset.specs.declared.fault.CodecFault.TheVariants.{Memory, At}
use Rattle.cs_feed.specs.declared.stream.StreamFault.{StreamFault}
use Rattle.cs_feed.specs.declared.stream.StreamFault.TheVariants as stream

-- the bytes spell a changeset
abbrev pub IsChangeset : List ℕ → Type 0
IsChangeset bytes = (groups : List Group) × FitsChangeset groups × (bytes ≡ changeset_spelling groups)

-- a fault that the bytes have already, whatever follows them
abbrev pub IsFaultSoFar : Fault → ℕ → List ℕ → Type 0
IsFaultSoFar fault offset bytes = (fault ≢ Truncated) × IsChangesetFault fault offset bytes

-- what is given is the bytes, which spell a changeset, or their fault is told; memory is never wanting
abbrev pub GivesChangeset : List ℕ → Result (List ℕ) CodecFault → Type 0
GivesChangeset bytes (Ok given) = IsChangeset bytes × (given ≡ bytes)
GivesChangeset bytes (Err Memory) = ⊥
GivesChangeset bytes (Err (At fault offset)) = IsChangesetFault fault offset bytes

-- the same, where memory may be wanting
abbrev pub GivesChangesetOrMemory : List ℕ → Result (List ℕ) CodecFault → Type 0
GivesChangesetOrMemory bytes (Ok given) = IsChangeset bytes × (given ≡ bytes)
GivesChangesetOrMemory bytes (Err Memory) = Unit {0}
GivesChangesetOrMemory bytes (Err (At fault offset)) = IsChangesetFault fault offset bytes

-- ---- over a reader

-- a fault as one of a stream
abbrev pub stream_fault : CodecFault → StreamFault
stream_fault Memory = stream.Memory
stream_fault (At fault offset) = stream.At fault offset

-- the bytes that the reader lost came; none is lost at its end alone
abbrev pub FeedsNext : Option (List ℕ) → Option (List ℕ) → List ℕ → List ℕ → Type 0
FeedsNext old new before after =
    (piece : List ℕ) × Consumes old new piece × (after ≡ before ++ piece) × (piece ≡ [] → OnSome old (IsAtEnd new))

-- what is given is the reader's bytes to their end, which spell a changeset. Or their fault is told, memory is wanting, or a
-- read failed
abbrev pub GivesChangesetFrom : Option (List ℕ) → Option (List ℕ) → Type 0 → Result (List ℕ) StreamFault → Type 0
GivesChangesetFrom old new failed (Ok given) =
    IsChangeset given × IfSome old (λ input. (given ≡ input) × IsAtEnd new)
GivesChangesetFrom old new failed (Err stream.Memory) = Unit {0}
GivesChangesetFrom old new failed (Err stream.Read) = failed
GivesChangesetFrom old new failed (Err (stream.At fault offset)) =
    IfSome old (λ input. IsChangesetFault fault offset input)
