-- The events so far were made, from any world at which it stood.
use Rattle.std.proofs.Common.{take}
use Rattle.std.specs.Prelude.{string_bytes}
use Rattle.cs_script.specs.Turns.{PlaysOnto, StandsAt}
use Rattle.cs_world.specs.World.{World}
use Rattle.cs_script.proofs.playing.play.Given as goal

abbrev pub invariant-loop-event : goal.invariant-loop-event
invariant-loop-event l =
    (standing : World) → StandsAt l.initial.world standing
    → PlaysOnto standing (take l.event-index l.events) (string_bytes l.initial.text) (string_bytes l.text) l.world
