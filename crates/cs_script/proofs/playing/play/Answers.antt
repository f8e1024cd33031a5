use Rattle.std.proofs.Common.{◌≡◌, ◌++◌, ◌∷◌, [], ◌+◌, ◌∙◌, List, take, ap, sym, subst, take_all, arith, refl}
use Rattle.std.specs.Prelude.{string_bytes}
use Rattle.std.proofs.lemmas.List.{take_more}
use Rattle.cs_world.specs.declared.event.Event.{Event}
use Rattle.cs_script.specs.Turns.{PlaysOnto}
use Rattle.cs_script.proofs.PlayingLemmas.{plays_more, plays_none}
use Rattle.cs_script.proofs.playing.play.Goals as goal

pub loop-event-init : goal.loop-event-init
loop-event-init c = λ standing stands. plays_none standing c.args.world.now [] (string_bytes c.args.text.now) (string_bytes c.args.text.now) refl refl stands

pub loop-event-preserved : goal.loop-event-preserved
loop-event-preserved c = λ standing stands.
    let at = c.loop-event.event-index in
    let events = c.args.events.now in
    let event = c.event-item.result in
    let wider : take (at + 1) events ≡ take at events ++ event ∷ [] = take_more events at event (omega arith) ∙ ap (λ (e : Event). take at events ++ e ∷ []) (sym c.event-item.is) in
    plays_more standing c.loop-event.world c.play_one.new.world (take at events) (take (at + 1) events) event _ _ _ wider (c.loop-event.invariant standing stands)
    (λ next at_next. c.in_ok-play_one.ensures next at_next)

pub returns : goal.returns
returns c = λ standing stands.
    let all : take c.loop-event.event-index c.args.events.now ≡ c.args.events.now = take_all c.loop-event.event-index c.args.events.now (omega arith) in
    subst (λ (es : List Event). PlaysOnto standing es (string_bytes c.args.text.now) (string_bytes c.loop-event.text) c.loop-event.world) all (c.loop-event.invariant standing stands)
