-- What has been read of an input whose lines are asks (profile of this project).
use Rattle.std.specs.Prelude.{◌≡◌, ◌⊎◌, ◌+◌, ℕ, List, [], ◌∷◌, ◌++◌, length, Option, Some, None}
use Rattle.std.specs.List.{AllZip}
use Rattle.std.specs.Io.KnownBytes.{IsAtEnd, Keeps}
use Rattle.cs_value.specs.declared.catalog.TableDef.{TableDef}
use Rattle.cs_lines.specs.Reading.{AreAllBefore, AreTaken, StaysInLine, TakesLine}
use Rattle.cs_lines.specs.Served.{AreAllLines, AreFirstLines}
use Rattle.cs_lines.specs.declared.serve.TheConstants.{ASKS}
use Rattle.cs_node_lines.specs.asks.Asked.{ask_in}
use Rattle.cs_node_lines.specs.declared.asks.ask.Ask.{Ask}
use Rattle.cs_node_lines.specs.declared.asks.fault.ReadFault.{ReadFault}
use Rattle.cs_node_lines.specs.declared.asks.fault.ReadFault.TheVariants.{Line, Memory, Read}

-- each line asks this, in order
abbrev pub AreAsked : List TableDef → List (List ℕ) → List Ask → Type 0
AreAsked tables lines asks = AllZip (λ line ask. ask_in tables line ≡ Some ask) lines asks

-- all lines of the input, in order, ask this
abbrev pub AreAllAsks : List TableDef → Option (List ℕ) → List Ask → Type 0
AreAllAsks tables input asks = (lines : List (List ℕ)) × AreAllLines input lines × AreAsked tables lines asks

-- why the input isn't read, of which this is left: want of memory, or a failed read or lines without end. Each line before could
-- be read then. Or the line with this number, from 1 on, is the first that can't be
abbrev pub IsReadFault : List TableDef → Type 0 → Option (List ℕ) → Option (List ℕ) → ReadFault → Type 0
IsReadFault tables read_failed input left Memory = Unit {0}
IsReadFault tables read_failed input left Read =
    (lines : List (List ℕ)) × (asks : List Ask) × AreAllBefore input left lines × AreAsked tables lines asks
    × (read_failed ⊎ (length lines ≡ ASKS))
IsReadFault tables read_failed input left (Line number) =
    (lines : List (List ℕ)) × (asks : List Ask) × (line : List ℕ)
    × AreFirstLines input (lines ++ line ∷ []) × AreAsked tables lines asks
    × (ask_in tables line ≡ None) × (number ≡ length lines + 1)

-- ---- on the way; no public clause cites these

-- the next line was taken, and no byte behind it, and asks this; or there was no line, and none was taken
abbrev pub TakesAsk : List TableDef → Option Ask → Option (List ℕ) → Option (List ℕ) → Type 0
TakesAsk tables None old new = IsAtEnd old × Keeps old new
TakesAsk tables (Some ask) old new = (line : List ℕ) × TakesLine [] old new line × (ask_in tables line ≡ Some ask)

-- why no ask was taken where there is a next line: want of memory, a failed read, or the line with this number can't be read
abbrev pub IsNotTaken : List TableDef → ℕ → Type 0 → Option (List ℕ) → Option (List ℕ) → ReadFault → Type 0
IsNotTaken tables number read_failed old new Memory = Unit {0}
IsNotTaken tables number read_failed old new Read = read_failed × StaysInLine old new
IsNotTaken tables number read_failed old new (Line told) =
    (told ≡ number) × ((line : List ℕ) × TakesLine [] old new line × (ask_in tables line ≡ None))

-- the lines that were taken ask this
abbrev pub AreRead : List TableDef → Option (List ℕ) → Option (List ℕ) → List Ask → Type 0
AreRead tables input left asks = (lines : List (List ℕ)) × AreTaken input left lines × AreAsked tables lines asks
