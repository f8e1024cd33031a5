-- Why a tool ends early: what is wrong with one line, and how the faults of the crates below are told.
use Rattle.std.specs.Prelude.{◌≡◌, ◌⊎◌, ℕ, List, Option, Err}
use Rattle.hex.specs.Hex.{decode_of}
use Rattle.hex.specs.declared.error.FromHexError.{FromHexError}
use Rattle.cs_changeset.specs.declared.fault.Fault.{Fault}
use Rattle.cs_changeset.specs.declared.fault.CodecFault.{CodecFault}
use Rattle.cs_changeset.specs.declared.fault.CodecFault.TheVariants.{At}
use Rattle.cs_changeset.specs.declared.fault.CodecFault.TheVariants as codec
use Rattle.cs_feed.specs.declared.stream.StreamFault.{StreamFault}
use Rattle.cs_feed.specs.declared.stream.StreamFault.TheVariants as stream
use Rattle.cs_group.specs.declared.combining.CombineFault.{CombineFault}
use Rattle.cs_group.specs.declared.combining.CombineFault.TheVariants as combining
use Rattle.cs_rebaser.specs.declared.faults.ConfigureFault.{ConfigureFault}
use Rattle.cs_rebaser.specs.declared.faults.ConfigureFault.TheVariants as configuring
use Rattle.cs_rebaser.specs.declared.faults.RebaseFault.{RebaseFault}
use Rattle.cs_rebaser.specs.declared.faults.RebaseFault.TheVariants as rebasing
use Rattle.cs_tools.specs.SpelledLine.{IsHexOf, TakesNext}
use Rattle.cs_tools.specs.declared.fault.ToolFault.{ToolFault}
use Rattle.cs_tools.specs.declared.fault.ToolFault.TheVariants.{Memory, Read, BadHex, Codec, Combine, Configure, Rebase}

-- a fault of a crate below as a tool tells it; want of memory is told as such alone
abbrev pub of_codec : CodecFault → ToolFault
of_codec codec.Memory = Memory
of_codec (At fault offset) = Codec (At fault offset)

abbrev pub of_stream : StreamFault → ToolFault
of_stream stream.Memory = Memory
of_stream stream.Read = Read
of_stream (stream.At fault offset) = Codec (At fault offset)

abbrev pub of_combine : CombineFault → ToolFault
of_combine combining.Memory = Memory
of_combine (combining.Headers fault) = Combine (combining.Headers fault)
of_combine (combining.Unfit fault) = Combine (combining.Unfit fault)

abbrev pub of_configure : ConfigureFault → ToolFault
of_configure configuring.Memory = Memory
of_configure configuring.KeyTwice = Configure configuring.KeyTwice

abbrev pub of_rebase : RebaseFault → ToolFault
of_rebase rebasing.Memory = Memory
of_rebase rebasing.WrongShape = Rebase rebasing.WrongShape

-- want of memory or a failed read is told, of which no line says anything
abbrev pub IsFailure : Type 0 → ToolFault → Type 0
IsFailure read_failed told = (told ≡ Memory) ⊎ ((told ≡ Read) × read_failed)

-- what neither a line nor a file is the reason of
abbrev pub IsOfNoLine : ToolFault → Type 0
IsOfNoLine told = (told ≡ Memory) ⊎ (told ≡ Read)

-- the line is no hex
abbrev pub IsNoHex : List ℕ → Type 0
IsNoHex line = (why : FromHexError) × (decode_of line ≡ Err why)

-- the bytes have this fault, by what is a fault of the format
abbrev pub AreBadBytes : (Fault → ℕ → List ℕ → Type 0) → List ℕ → ToolFault → Type 0
AreBadBytes IsFault bytes told =
    (fault : Fault) × (offset : ℕ) × IsFault fault offset bytes × (told ≡ Codec (At fault offset))

-- the line is no hex, or its bytes have this fault
abbrev pub IsBadLine : (Fault → ℕ → List ℕ → Type 0) → List ℕ → ToolFault → Type 0
IsBadLine IsFault line told =
    (IsNoHex line × (told ≡ BadHex)) ⊎ ((bytes : List ℕ) × IsHexOf line bytes × AreBadBytes IsFault bytes told)

-- so it is with the next line, which was taken, and no byte behind it
abbrev pub IsBadNext : (Fault → ℕ → List ℕ → Type 0) → Option (List ℕ) → Option (List ℕ) → ToolFault → Type 0
IsBadNext IsFault old new told = (line : List ℕ) × TakesNext old new line × IsBadLine IsFault line told
