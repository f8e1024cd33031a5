-- What a replica that meets its hub asks next (profile of this project).
use Rattle.std.specs.Prelude.{ℕ, ◌==◌, ◌+◌, if◌then◌else◌, List, Option, Some, None}
use Rattle.cs_node_lines.specs.told.Dump.{flight_count}
use Rattle.cs_normal.specs.declared.normal.TableChanges.{TableChanges}
use Rattle.cs_pending.specs.declared.position.position.Position.{Position}
use Rattle.cs_world.specs.declared.event.Event.{Event}
use Rattle.cs_world.specs.declared.event.Event.TheVariants.{AskCatch, MakePush, Resend}
use Rattle.cs_meeting.specs.declared.ask.Ask.{Ask}
use Rattle.cs_meeting.specs.declared.ask.Ask.TheVariants as ask
use Rattle.cs_meeting.specs.declared.ask.TheConstants.{AT_ONCE}

-- the push that is under way, else what is pending, if there is either
abbrev pub own_ask : Option (List TableChanges) → ℕ → Option Ask
own_ask (Some changes) pending = Some ask.Resend
own_ask None pending = if pending == 0 then None else Some ask.Push

-- entries, where it isn't at the newest version; there what it has of its own; else it is at rest
abbrev pub next_ask : ℕ → Position → Option Ask
next_ask newest position = if position.version == newest then own_ask position.flight position.pending else Some ask.Catch

-- the event of replica number r that it is
abbrev pub asked_event : ℕ → Ask → Event
asked_event r ask.Catch = AskCatch r AT_ONCE
asked_event r ask.Resend = Resend r
asked_event r ask.Push = MakePush r

-- how many changes of its own a replica has, under way and pending
abbrev pub own_count : Position → ℕ
own_count position = position.pending + flight_count position.flight
