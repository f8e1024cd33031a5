-- How a script ends: what is written of it, or why nothing is.
use Rattle.std.specs.Prelude.{◌≡◌, ℕ, List, ◌++◌, Option, Result, Ok, Err, ⊤, length}
use Rattle.std.specs.Io.KnownBytes.{Appends, Keeps}
use Rattle.cs_store.specs.declared.log.entry.TheConstants.{MAX_ENTRIES}
use Rattle.cs_lines.specs.Writing.{AppendsFront}
use Rattle.cs_value.specs.declared.catalog.TableDef.{TableDef}
use Rattle.cs_world.specs.Headline.{Headline}
use Rattle.cs_world.specs.Laws.{IsFirstMember}
use Rattle.cs_world.specs.World.{IsMember, Member, World, first_world}
use Rattle.cs_world.specs.declared.event.Event.{Event}
use Rattle.cs_script.specs.Dump.{IsDump}
use Rattle.cs_script.specs.Played.{Plays}
use Rattle.cs_script.specs.Scripts.{IsNoScript, IsScript}
use Rattle.cs_script.specs.declared.fault.ScriptFault.{ScriptFault}
use Rattle.cs_script.specs.declared.fault.ScriptFault.TheVariants.{Memory, Read, Write, Line}

-- so many replicas to which nothing has happened
abbrev pub AreFirstMembers : List TableDef → ℕ → List Member → Type 0
AreFirstMembers tables count members =
    (length members ≡ count)
    × ((r : ℕ) (member : Member) → IsMember (first_world tables members) r member → IsFirstMember tables r member)

-- in a new world of so many replicas these events were made, each told on a line. Then the world at the end is told, which has the
-- headline
abbrev pub IsPlayed : List TableDef → ℕ → List Event → List ℕ → Type 0
IsPlayed tables count events text =
    (members : List Member) × (end : World) × (played : List ℕ) × (dump : List ℕ)
    × AreFirstMembers tables count members
    × Plays MAX_ENTRIES (first_world tables members) events played end × Headline end
    × IsDump end dump × (text ≡ played ++ dump)

-- the text that is owed for an input: that of the events that all its lines name
abbrev pub IsOwed : List TableDef → ℕ → Option (List ℕ) → List ℕ → Type 0
IsOwed tables count input text = (events : List Event) × IsScript tables input events × IsPlayed tables count events text

-- the text that is owed was written, or a front of it, where the writer failed. Or nothing was written, and the input was read to no
-- script, or memory was refused
abbrev pub EndsScript : List TableDef → ℕ → Option (List ℕ) → Option (List ℕ) → Type 0 → Type 0 → Option (List ℕ) → Option (List ℕ)
    → Result ⊤ ScriptFault → Type 0
EndsScript tables count input left read_failed write_failed old new (Ok done) =
    (text : List ℕ) × IsOwed tables count input text × Appends old new text
EndsScript tables count input left read_failed write_failed old new (Err Write) =
    (text : List ℕ) × IsOwed tables count input text × AppendsFront old new text × write_failed
EndsScript tables count input left read_failed write_failed old new (Err Memory) = Keeps old new
EndsScript tables count input left read_failed write_failed old new (Err Read) = IsNoScript tables read_failed input left Read × Keeps old new
EndsScript tables count input left read_failed write_failed old new (Err (Line number)) =
    IsNoScript tables read_failed input left (Line number) × Keeps old new
