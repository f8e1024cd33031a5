-- Steps on the way from lines to a text: no definition that a public clause cites.
use Rattle.std.specs.Prelude.{◌≡◌, ◌+◌, ℕ, List, [], ◌++◌, Option, Some, None}
use Rattle.std.specs.Io.KnownBytes.{IsAtEnd, Keeps}
use Rattle.cs_store.specs.declared.log.entry.TheConstants.{MAX_ENTRIES}
use Rattle.cs_lines.specs.Reading.{StaysInLine, TakesLine}
use Rattle.cs_store.specs.log.Log.{state_of}
use Rattle.cs_map_store.specs.Slots.{InMemory, in_map_store}
use Rattle.cs_normal.specs.State.{State}
use Rattle.cs_text.specs.Text.{line}
use Rattle.cs_node_lines.specs.told.Dump.{AreRowLines, replica_text}
use Rattle.cs_value.specs.declared.catalog.TableDef.{TableDef}
use Rattle.cs_world.specs.Holding.{Holding, StandsAt as StandsAtOver}
use Rattle.cs_world.specs.Steps.{Step}
use Rattle.cs_world.specs.World.{IsMember, Member, World}
use Rattle.cs_world.specs.declared.event.Event.{Event}
use Rattle.cs_world.specs.declared.outcome.Outcome.{Outcome}
use Rattle.cs_script.specs.Dump.{AreReplicaLines, IsDump}
use Rattle.cs_script.specs.Events.{event_in}
use Rattle.cs_script.specs.Played.{Plays, outcome_text, version_told}
use Rattle.cs_script.specs.declared.fault.ScriptFault.{ScriptFault}
use Rattle.cs_script.specs.declared.fault.ScriptFault.TheVariants as fault

-- the next line was taken, and no byte behind it, and names this event; or there was no line, and none was taken
abbrev pub TakesEvent : List TableDef → Option Event → Option (List ℕ) → Option (List ℕ) → Type 0
TakesEvent tables None old new = IsAtEnd old × Keeps old new
TakesEvent tables (Some event) old new = (words : List ℕ) × TakesLine [] old new words × (event_in tables words ≡ Some event)

-- why there is no next event; so many lines were taken before
abbrev pub IsNoEvent : List TableDef → Type 0 → ℕ → Option (List ℕ) → Option (List ℕ) → ScriptFault → Type 0
IsNoEvent tables read_failed before old new fault.Memory = Unit {0}
IsNoEvent tables read_failed before old new fault.Read = read_failed × StaysInLine old new
IsNoEvent tables read_failed before old new fault.Write = ⊥
IsNoEvent tables read_failed before old new (fault.Line number) =
    (words : List ℕ) × TakesLine [] old new words × (event_in tables words ≡ None) × (number ≡ before + 1)

-- what a world in memory stands at
abbrev pub StandsAt : Holding InMemory → World → Type 0
StandsAt held world = StandsAtOver in_map_store MAX_ENTRIES held world

-- the event was made, and is told on a line behind a text
abbrev pub PlaysOne : World → Event → List ℕ → List ℕ → Holding InMemory → Type 0
PlaysOne old event before after held =
    (outcome : Outcome) × (next : World) × Step MAX_ENTRIES old event outcome next × StandsAt held next
    × (after ≡ before ++ line (outcome_text outcome (version_told next event)))

-- so with events, one after another
abbrev pub PlaysOnto : World → List Event → List ℕ → List ℕ → Holding InMemory → Type 0
PlaysOnto old events before after held =
    (next : World) × (played : List ℕ) × Plays MAX_ENTRIES old events played next × StandsAt held next × (after ≡ before ++ played)

-- the rows of a replica, or, where none is named, of the hub
abbrev pub IsStateOf : World → Option ℕ → State → Type 0
IsStateOf world None state = state ≡ state_of world.log
IsStateOf world (Some r) state = (member : Member) × IsMember world r member × (state ≡ member.view.tables)

-- a replica stands behind a text
abbrev pub PutsReplica : List TableDef → ℕ → Member → List ℕ → List ℕ → Type 0
PutsReplica tables r member before after =
    (rows : List ℕ) × AreRowLines tables member.view.tables rows × (after ≡ before ++ line (replica_text r member.position) ++ rows)

-- the first replicas stand behind a text
abbrev pub PutsReplicas : List TableDef → List Member → List ℕ → List ℕ → Type 0
PutsReplicas tables members before after =
    (replicas : List ℕ) × AreReplicaLines tables 0 members replicas × (after ≡ before ++ replicas)

-- a world stands behind a text
abbrev pub PutsDump : World → List ℕ → List ℕ → Type 0
PutsDump world before after = (dump : List ℕ) × IsDump world dump × (after ≡ before ++ dump)
