-- The laws of stops.
use Rattle.std.specs.Prelude.{◌≡◌, ◌⊎◌, ◌<◌, ◌^◌, ℕ, List, map}
use Rattle.cs_value.specs.Catalog.{AreTables}
use Rattle.cs_value.specs.declared.catalog.TableDef.{TableDef}
use Rattle.cs_conflict.specs.declared.wish.Wish.{Wish}
use Rattle.cs_store.specs.declared.log.entry.LogEntry.{LogEntry}
use Rattle.cs_hub.specs.log_store.Shows.{ShowsLog}
use Rattle.cs_opening.specs.moving.Moved.{IsStoreOpened}
use Rattle.cs_pending.specs.View.{View}
use Rattle.cs_pending.specs.position.Laws.{FitsPosition}
use Rattle.cs_pending.specs.position.Shows.{ShowsAt}
use Rattle.cs_pending.specs.declared.position.position.Position.{Position}
use Rattle.cs_store.specs.Contents.{Contents}
use Rattle.cs_world.specs.Headline.{Headline}
use Rattle.cs_world.specs.Runs.{AllGood}
use Rattle.cs_world.specs.Sound.{IsSound}
use Rattle.cs_world.specs.Steps.{Step, Steps}
use Rattle.cs_world.specs.World.{IsMember, Member, Sent, World}
use Rattle.cs_world.specs.declared.event.Event.{Event}
use Rattle.cs_world.specs.declared.event.Event.TheVariants.{Deliver}
use Rattle.cs_world.specs.declared.outcome.Outcome.{Outcome}
use Rattle.cs_world.specs.Left.{AtHub, AtReplica, Survives, WouldLeave, WouldServe, turned}
use Rattle.cs_world.specs.Stops.{AreTold, Marked, RunsWithStops, Standing, Whole, left_events, opened}

-- a run with stops is a run without, of the events that are left of it. Those that were stopped before they were made are not there, and
-- those stopped behind some entries were refused there. One whose commit had failed may stand at a later stop. So it has the headline
abbrev pub RunWithStops : Type 0
RunWithStops =
    (limit : ℕ) (world : World) (list : List Marked) (new : Standing)
    → limit < 2 ^ 32
    → IsSound limit world
    → RunsWithStops limit (opened world) list new
    → (outcomes : List Outcome) × Steps limit world (left_events list) outcomes new.world × AreTold list outcomes
    × AllGood outcomes × IsSound limit new.world × Headline new.world

-- the event happened, and its store went on
abbrev pub whole_event : Event → Marked
whole_event event = record { event = event; mark = Whole }

-- each run without stops is one in which none came
abbrev pub RunsWhole : Type 0
RunsWhole =
    (limit : ℕ) (world next : World) (events : List Event) (outcomes : List Outcome)
    → Steps limit world events outcomes next
    → RunsWithStops limit (opened world) (map whole_event events) (opened next)

-- what a commit that failed may yet have left in a replica's store shows what a step of its event makes of the replica
abbrev pub FoundIsStep : Type 0
FoundIsStep =
    (limit r : ℕ) (world : World) (before : Member) (old left : Contents) (event : Event)
    → IsMember world r before
    → ShowsAt before.tables old before.position before.view
    → WouldLeave world r before.tables before.position old left event
    → (after : Member) × (sent : List Sent) × (outcome : Outcome)
    × Step limit world event outcome (turned (AtReplica r) world after sent)
    × ShowsAt after.tables left after.position after.view

-- a commit to the store of a sound world's hub failed. What it may yet have left there shows the log that a step of its event makes
abbrev pub FoundIsStepOfHub : Type 0
FoundIsStepOfHub =
    (limit : ℕ) (world : World) (wishes : List Wish) (old left : Contents) (would : WouldServe limit world old left)
    → limit < 2 ^ 32
    → IsSound limit world
    → ShowsLog world.tables old world.log
    → (log : List LogEntry) × (sent : List Sent) × (outcome : Outcome)
    × Step limit world (Deliver would.message wishes) outcome (turned AtHub world log sent)
    × ShowsLog world.tables left log

-- so what a stop leaves of a replica's store, be it what it held or that of a failed commit, shows a replica. Its world is sound and has
-- the headline
abbrev pub StopOfReplica : Type 0
StopOfReplica =
    (limit r : ℕ) (world : World) (before : Member) (old left : Contents)
    → limit < 2 ^ 32
    → IsSound limit world
    → IsMember world r before
    → ShowsAt before.tables old before.position before.view
    → (left ≡ old) ⊎ ((event : Event) × WouldLeave world r before.tables before.position old left event)
    → Survives limit world (AtReplica r) left

-- and of the hub's store
abbrev pub StopOfHub : Type 0
StopOfHub =
    (limit : ℕ) (world : World) (old left : Contents)
    → limit < 2 ^ 32
    → IsSound limit world
    → ShowsLog world.tables old world.log
    → (left ≡ old) ⊎ WouldServe limit world old left
    → Survives limit world AtHub left

-- what a stop leaves of a replica's store is opened as it stands, and the replica is where the store shows it
abbrev pub OpensAsLeft : Type 0
OpensAsLeft =
    (tables : List TableDef) (left now : Contents) (position read : Position) (view : View)
    → AreTables tables
    → FitsPosition position
    → ShowsAt tables left position view
    → IsStoreOpened tables position.id left now read
    → (now ≡ left) × (read ≡ position)
