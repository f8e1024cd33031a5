-- Events, one after another.
use Rattle.std.proofs.Common.{◌≡◌, ℕ, List, [], ◌∷◌, ◌++◌, refl, sym, ap, subst, ◌∙◌, append_assoc, append-nil}
use Rattle.cs_store.specs.declared.log.entry.TheConstants.{MAX_ENTRIES}
use Rattle.cs_map_store.specs.Slots.{InMemory, in_map_store}
use Rattle.cs_text.specs.Text.{line}
use Rattle.cs_world.specs.Holding.{Holding}
use Rattle.cs_world.specs.Runs.{Runs}
use Rattle.cs_world.specs.Steps.{Step}
use Rattle.cs_world.specs.Steps as step
use Rattle.cs_world.specs.World.{World}
use Rattle.cs_world.specs.declared.event.Event.{Event}
use Rattle.cs_world.specs.declared.outcome.Outcome.{Outcome}
use Rattle.cs_script.specs.Played.{Plays, outcome_text, version_told}
use Rattle.cs_script.specs.Turns.{PlaysOne, PlaysOnto, StandsAt}
use Rattle.cs_script.proofs.WorldLemmas.{all_honest}

-- an event made a step
pub stepped : (old new : Holding InMemory) (event : Event) (outcome : Outcome) (world : World)
    → Runs in_map_store MAX_ENTRIES old (event ∷ []) (outcome ∷ []) new → StandsAt old world
    → (next : World) × Step MAX_ENTRIES world event outcome next × StandsAt new next
stepped old new event outcome world runs stands =
    let ran = runs.ran (all_honest new) world stands in
    let made = subst (λ (w : World). Step MAX_ENTRIES world event outcome w) (sym ran.1.2) ran.1.1 in (ran.0, made, ran.3)

pub plays_one : (old new : Holding InMemory) (event : Event) (outcome : Outcome) (world : World) (version : ℕ) (before after : List ℕ)
    → Runs in_map_store MAX_ENTRIES old (event ∷ []) (outcome ∷ []) new → StandsAt old world
    → ((next : World) → StandsAt new next → version ≡ version_told next event)
    → after ≡ before ++ line (outcome_text outcome version)
    → PlaysOne world event before after new
plays_one old new event outcome world version before after runs stands told is =
    let s = stepped old new event outcome world runs stands in
    (outcome, s.0, s.1, s.2, is ∙ ap (λ v. before ++ line (outcome_text outcome v)) (told s.0 s.2))

plays_push : (old between new : World) (events : List Event) (event : Event) (outcome : Outcome) (played : List ℕ)
    → Plays MAX_ENTRIES old events played between → Step MAX_ENTRIES between event outcome new
    → Plays MAX_ENTRIES old (events ++ event ∷ []) (played ++ line (outcome_text outcome (version_told new event))) new
plays_push old between new [] event outcome played plays step =
    let made = subst (λ (w : World). Step MAX_ENTRIES w event outcome new) plays.0 step in
    let text = line (outcome_text outcome (version_told new event)) in
    (outcome, new, [], made, (refl, refl), ap (λ t. t ++ text) plays.1 ∙ sym (append-nil text))
plays_push old between new (first ∷ events) event outcome played plays step =
    let further = plays_push plays.1 between new events event outcome plays.2 plays.4 step in
    let text = line (outcome_text outcome (version_told new event)) in (
      plays.0,
      plays.1,
      plays.2 ++ text,
      plays.3,
      further,
      ap (λ t. t ++ text) plays.5 ∙ append_assoc (line (outcome_text plays.0 (version_told plays.1 first))) plays.2 text,
    )

pub plays_none : (world : World) (held : Holding InMemory) (events : List Event) (before after : List ℕ) → events ≡ [] → after ≡ before → StandsAt held world
    → PlaysOnto world events before after held
plays_none world held events before after none is stands =
    rw none (world, [], (refl, refl), stands, is ∙ sym (append-nil before))

pub plays_more : (world : World) (held now : Holding InMemory) (events more : List Event) (event : Event) (before between after : List ℕ)
    → more ≡ events ++ event ∷ []
    → PlaysOnto world events before between held
    → ((next : World) → StandsAt held next → PlaysOne next event between after now)
    → PlaysOnto world more before after now
plays_more world held now events more event before between after is so_far one =
    let turn = one so_far.0 so_far.3 in
    let text = line (outcome_text turn.0 (version_told turn.1 event)) in
    rw is (
      turn.1,
      so_far.1 ++ text,
      plays_push world so_far.0 turn.1 events event turn.0 so_far.1 so_far.2 turn.2,
      turn.3,
      turn.4 ∙ ap (λ t. t ++ text) so_far.4 ∙ append_assoc before so_far.1 text,
    )

-- an event leaves the tables
step_tables : (limit : ℕ) (old : World) {event : Event} {outcome : Outcome} {new : World} → Step limit old event outcome new → new.tables ≡ old.tables
step_tables limit old (step.edits count was made shows) = refl
step_tables limit old (step.edits_not was why) = refl
step_tables limit old (step.pushes was made) = refl
step_tables limit old (step.pushes_not was why) = refl
step_tables limit old (step.resends was is) = refl
step_tables limit old (step.resends_not was why) = refl
step_tables limit old (step.asks less was) = refl
step_tables limit old (step.catches less was) = refl
step_tables limit old (step.orders fits) = refl
step_tables limit old (step.obeys answer there fits served) = refl
step_tables limit old (step.ignores there) = refl
step_tables limit old (step.restarts was) = refl
step_tables limit old (step.restarts_not was why) = refl
step_tables limit old (step.serves answer there fits served) = refl
step_tables limit old (step.hears there was hears) = refl
step_tables limit old (step.no_replica whose none) = refl
step_tables limit old (step.no_message none) = refl
step_tables limit old step.no_memory = refl

pub plays_tables : (old new : World) (events : List Event) (played : List ℕ) → Plays MAX_ENTRIES old events played new → new.tables ≡ old.tables
plays_tables old new [] played plays = ap (λ w. w.tables) plays.0
plays_tables old new (event ∷ events) played plays =
    plays_tables plays.1 new events plays.2 plays.4 ∙ step_tables MAX_ENTRIES old plays.3
