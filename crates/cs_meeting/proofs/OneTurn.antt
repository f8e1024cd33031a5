-- In the same world the same turn is taken.
use Rattle.std.proofs.Common.{◌≡◌, ◌<◌, ◌^◌, ◌∙◌, ℕ, List, [], Some, length, sym, ap, subst, suc}
use Rattle.std.specs.Prelude.{replicate}
use Rattle.cs_conflict.specs.declared.wish.Wish.{Wish}
use Rattle.cs_pending.specs.declared.position.position.Position.{Position}
use Rattle.cs_world.specs.Laws.{OneStep, StepsAreSound}
use Rattle.cs_world.specs.Same.{IsRefused, IsSameWorld}
use Rattle.cs_world.specs.Sound.{IsSound}
use Rattle.cs_world.specs.Steps.{Step}
use Rattle.cs_world.specs.World.{Sent, World}
use Rattle.cs_world.specs.declared.event.Event.{Event}
use Rattle.cs_world.specs.declared.event.Event.TheVariants.{Deliver}
use Rattle.cs_world.specs.declared.outcome.Outcome.{Outcome}
use Rattle.cs_meeting.specs.Asks.{asked_event, next_ask, own_count}
use Rattle.cs_meeting.specs.Laws.{IsWhole, OneTurn, TurnIsSound}
use Rattle.cs_meeting.specs.Turns.{TakesMeetingTurn}
use Rattle.cs_meeting.specs.declared.ask.Ask.{Ask}

pub turn_is_sound : StepsAreSound → TurnIsSound
turn_is_sound sound limit r wish old new text small is turn =
    let t = turn.turns in
    let asked = (sound limit old t.asked (asked_event r turn.ask) t.asking small is t.asks).0 in
    let served = (sound limit t.asked t.served (Deliver (length old.messages) []) t.serving small asked t.serves).0 in
    (sound limit t.served new (Deliver (suc (length old.messages)) (replicate (own_count turn.before.position) wish)) t.hearing small served t.hears).0

module _ (one : OneStep) (sound : StepsAreSound) (limit : ℕ) (small : limit < 2 ^ 32) where
  -- the same event in the same world
  one_so : (old its new last : World) (event its_event : Event) (some other : Outcome) → IsSound limit old → IsSound limit its → IsSameWorld old its → its_event ≡ event
      → (IsRefused some new → ⊥) → (IsRefused other last → ⊥) → Step limit old event some new → Step limit its its_event other last
      → (some ≡ other) × IsSameWorld new last × IsSound limit new × IsSound limit last
  one_so old its new last event its_event some other is its_is same event_is whole its_whole step its_step =
      let both = one limit old its new last event some other is its_is same whole its_whole step (subst (λ (e : Event). Step limit its e other last) event_is its_step) in
      (both.0, both.1, (sound limit old new event some small is step).0, (sound limit its last its_event other small its_is its_step).0)

  pub one_turn_so : (r : ℕ) (wish : Wish) (old its new last : World) (some other : List ℕ) → IsSound limit old → IsSound limit its → IsSameWorld old its
      → (turn : TakesMeetingTurn limit r wish old new some) → (its_turn : TakesMeetingTurn limit r wish its last other) → IsWhole turn → IsWhole its_turn
      → (turn.ask ≡ its_turn.ask) × (turn.turns.hearing ≡ its_turn.turns.hearing) × IsSameWorld new last
  one_turn_so r wish old its new last some other is its_is same turn its_turn whole its_whole =
      let member = same.members r turn.before its_turn.before turn.was its_turn.was in
      let position : its_turn.before.position ≡ turn.before.position = member.position in
      let its_next : next_ask (length old.log) turn.before.position ≡ Some its_turn.ask =
      subst (λ (p : Position). next_ask (length old.log) p ≡ Some its_turn.ask) position (subst (λ (n : ℕ). next_ask n its_turn.before.position ≡ Some its_turn.ask) (ap (λ log. length log) same.log) its_turn.next) in
      let both : Some turn.ask ≡ Some its_turn.ask = sym turn.next ∙ its_next in
      let ask : turn.ask ≡ its_turn.ask = cc in
      let count : length its.messages ≡ length old.messages = ap (λ (ms : List Sent). length ms) same.messages in
      let t = turn.turns in
      let u = its_turn.turns in
      let a = one_so old its t.asked u.asked (asked_event r turn.ask) (asked_event r its_turn.ask) t.asking u.asking is its_is same (ap (λ (w : Ask). asked_event r w) (sym ask)) whole.asking its_whole.asking t.asks u.asks in
      let b = one_so t.asked u.asked t.served u.served (Deliver (length old.messages) []) (Deliver (length its.messages) []) t.serving u.serving a.2 a.3 a.1 (ap (λ (n : ℕ). Deliver n []) count) whole.serving its_whole.serving t.serves u.serves in
      let wishes : replicate (own_count its_turn.before.position) wish ≡ replicate (own_count turn.before.position) wish = ap (λ (p : Position). replicate (own_count p) wish) position in
      let deliver : Deliver (suc (length its.messages)) (replicate (own_count its_turn.before.position) wish) ≡ Deliver (suc (length old.messages)) (replicate (own_count turn.before.position) wish) =
      ap (λ (n : ℕ). Deliver (suc n) (replicate (own_count its_turn.before.position) wish)) count ∙ ap (λ (ws : List Wish). Deliver (suc (length old.messages)) ws) wishes in
      let c = one_so t.served u.served new last (Deliver (suc (length old.messages)) (replicate (own_count turn.before.position) wish)) (Deliver (suc (length its.messages)) (replicate (own_count its_turn.before.position) wish))
      t.hearing u.hearing b.2 b.3 b.1 deliver whole.hearing its_whole.hearing t.hears u.hears in
      (ask, c.0, c.1)

pub one_turn : OneStep → StepsAreSound → OneTurn
one_turn one sound limit r wish old its new last some other small is its_is same turn its_turn whole its_whole =
    one_turn_so one sound limit small r wish old its new last some other is its_is same turn its_turn whole its_whole
