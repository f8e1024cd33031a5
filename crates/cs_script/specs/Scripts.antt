-- A script, line by line (format of this project).
use Rattle.std.specs.Prelude.{◌≡◌, ◌⊎◌, ◌+◌, ℕ, List, [], ◌∷◌, ◌++◌, length, Option, Some, None}
use Rattle.std.specs.List.{AllZip}
use Rattle.cs_lines.specs.Reading.{AreAllBefore}
use Rattle.cs_lines.specs.Served.{AreAllLines, AreFirstLines}
use Rattle.cs_lines.specs.declared.serve.TheConstants.{ASKS}
use Rattle.cs_value.specs.declared.catalog.TableDef.{TableDef}
use Rattle.cs_world.specs.declared.event.Event.{Event}
use Rattle.cs_script.specs.Events.{event_in}
use Rattle.cs_script.specs.declared.fault.ScriptFault.{ScriptFault}
use Rattle.cs_script.specs.declared.fault.ScriptFault.TheVariants.{Memory, Read, Write, Line}

-- each line names its event, in order
abbrev pub NameEvents : List TableDef → List (List ℕ) → List Event → Type 0
NameEvents tables lines events = AllZip (λ line event. event_in tables line ≡ Some event) lines events

-- the lines of the input name these events
abbrev pub IsScript : List TableDef → Option (List ℕ) → List Event → Type 0
IsScript tables input events = (lines : List (List ℕ)) × AreAllLines input lines × NameEvents tables lines events

-- why an input was read to no script: the first line that names no event, by its number from 1, or want of memory. Or it is a failed
-- read, or lines without end, where each line before names one
abbrev pub IsNoScript : List TableDef → Type 0 → Option (List ℕ) → Option (List ℕ) → ScriptFault → Type 0
IsNoScript tables read_failed input left (Line number) =
    (lines : List (List ℕ)) × (events : List Event) × (line : List ℕ)
    × AreFirstLines input (lines ++ line ∷ []) × NameEvents tables lines events × (event_in tables line ≡ None) × (number ≡ length lines + 1)
IsNoScript tables read_failed input left Read =
    (lines : List (List ℕ)) × (events : List Event)
    × AreAllBefore input left lines × NameEvents tables lines events × (read_failed ⊎ (length lines ≡ ASKS))
IsNoScript tables read_failed input left Memory = Unit {0}
IsNoScript tables read_failed input left Write = ⊥
