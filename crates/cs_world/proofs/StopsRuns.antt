-- A run with stops is a run without.
use Rattle.std.proofs.Common.{◌≡◌, ◌≢◌, ◌<◌, ◌^◌, ◌++◌, ℕ, List, [], ◌∷◌, refl, sym, ap, subst, inl, inr, arith}
use Rattle.std.specs.Prelude.{◌⊎◌, Contains}
use Rattle.std.proofs.lemmas.Bool.{cases_eq}
use Rattle.std.proofs.lemmas.List.Elements.{Contains-append_cases, Contains-push_cases}
use Rattle.cs_world.specs.Laws.{SoundHasHeadline, StepsAreSound}
use Rattle.cs_world.specs.Merges.{count_in}
use Rattle.cs_world.specs.Runs.{AllGood}
use Rattle.cs_world.specs.Sound.{IsSound}
use Rattle.cs_world.specs.Steps.{Step, Steps}
use Rattle.cs_world.specs.World.{World}
use Rattle.cs_world.specs.declared.event.Event.{Event}
use Rattle.cs_world.specs.declared.outcome.Outcome.{Outcome}
use Rattle.cs_world.specs.Left.{AtHub, AtReplica, Place}
use Rattle.cs_world.specs.Moves.{HasGoneOn}
use Rattle.cs_world.specs.Stops.{AreTold, FailsAt, GoesOn, Happens, Late, Mark, Marked, Remain, RunsWithStops, Standing, StopsAt, ToldBy, WouldStep, left_events, left_of, opened}
use Rattle.cs_world.specs.Stops as stops
use Rattle.cs_world.specs.StopsLaws.{RunWithStops}
use Rattle.cs_world.proofs.StopsLocal.{framed, framed_is, would_on}

-- ---- lists and places

in_none : {X : Type 0} (xs : List X) (x : X) → xs ≡ [] → Contains xs x → ⊥
in_none {X = X} xs x none at =
    let c : Contains [] x = subst (λ (ys : List X). Contains ys x) none at in
    let few = c.1 in
    omega (arith, few)

in_more : {X : Type 0} (y : X) (xs : List X) (x : X) → Contains (y ∷ xs) x → (y ≡ x) ⊎ Contains xs x
in_more y xs x at =
    elim (Contains-append_cases (y ∷ []) xs x at) [
      | inl one ↦ elim (Contains-push_cases [] y x one) [ inl none ↦ absurd (in_none [] x refl none) | inr is ↦ inl is ]
      | inr more ↦ inr more
    ]

same_place : (place other : Place) → (other ≡ place) ⊎ (other ≢ place)
same_place AtHub AtHub = inl refl
same_place AtHub (AtReplica r) = inr (λ e. cc)
same_place (AtReplica r) AtHub = inr (λ e. cc)
same_place (AtReplica r) (AtReplica q) =
    elim (cases_eq q r) [ inl same ↦ inl (ap AtReplica same) | inr other ↦ inr (λ e. other cc) ]

-- ---- each failed commit would be a step

abbrev pub Good : ℕ → World → (place : Place) → List (Late place) → Type 0
Good limit world place lates = (late : Late place) → Contains lates late → WouldStep limit world place late

abbrev pub AllGoodAt : ℕ → Standing → Type 0
AllGoodAt limit s = (place : Place) → Good limit s.world place (s.late place)

module _ (limit : ℕ) (old : Standing) (world : World) (good : AllGoodAt limit old) (frame : HasGoneOn old.world world) where
  remaining : (place : Place) (lates : List (Late place)) → Remain old world place lates → Good limit world place lates
  remaining place lates (inl none) late at = absurd (in_none lates late none at)
  remaining place lates (inr (same, kept)) late at =
      would_on limit old.world world place late (good place late (subst (λ (ls : List (Late place)). Contains ls late) same at))
      (record { tables = frame.tables; messages = frame.messages; same = kept })

module _ (limit : ℕ) (old new : Standing) (good : AllGoodAt limit old) (frame : HasGoneOn old.world new.world) where
  going_on : ((place : Place) → GoesOn old new place) → AllGoodAt limit new
  going_on goes place = remaining limit old new.world good frame place (new.late place) (goes place)

  stopping : (place : Place) → StopsAt old new place → AllGoodAt limit new
  stopping place stops = going_on (λ other.
      elim (same_place place other) [
        | inl same ↦ subst (λ (at : Place). GoesOn old new at) (sym same) (inl stops.alone)
        | inr apart ↦ stops.others other apart
      ])

  failing : (event : Event) (count : ℕ) (place : Place) → FailsAt limit old new event count place → AllGoodAt limit new
  failing event count place fails other =
      elim (same_place place other) [
        | inl same ↦ subst (λ (at : Place). Good limit new.world at (new.late at)) (sym same) (λ late at.
            elim (in_more fails.late fails.earlier late (subst (λ (ls : List (Late place)). Contains ls late) fails.one_more at)) [
              | inl is ↦ subst (λ (l : Late place). WouldStep limit new.world place l) is fails.would
              | inr earlier ↦ remaining limit old new.world good frame place fails.earlier fails.remain late earlier
            ])
        | inr apart ↦ remaining limit old new.world good frame other (new.late other) (fails.others other apart)
      ]

-- ---- one event

-- it is told of by what its mark says, and what follows it without stops follows what is left of it
pub record Becomes (limit : ℕ) (old new : Standing) (event : Event) (mark : Mark) : Type 0 where
  pub good : AllGoodAt limit new
  pub sound : IsSound limit new.world
  pub first : (events : List Event) (rest : List Outcome) (last : World) → Steps limit new.world events rest last → AllGood rest
      → (outcomes : List Outcome) × Steps limit old.world (left_of event mark ++ events) outcomes last × ToldBy mark outcomes rest × AllGood outcomes

module _ (law : StepsAreSound) (limit : ℕ) (small : limit < 2 ^ 32) (old new : Standing) (good : AllGoodAt limit old) (sound : IsSound limit old.world) where
  -- a step, and then what follows
  one_more : (event : Event) (outcome : Outcome) → Step limit old.world event outcome new.world → (events : List Event) (rest : List Outcome) (last : World) → Steps limit new.world events rest last → AllGood rest
      → Steps limit old.world (event ∷ events) (outcome ∷ rest) last × AllGood (outcome ∷ rest)
  one_more event outcome step events rest last steps goods =
      ((new.world, step, steps), ((law limit old.world new.world event outcome small sound step).1, goods))

  still_sound : (event : Event) (outcome : Outcome) → Step limit old.world event outcome new.world → IsSound limit new.world
  still_sound event outcome step = (law limit old.world new.world event outcome small sound step).0

  becomes : (event : Event) {mark : Mark} → Happens limit old new event mark → Becomes limit old new event mark
  becomes event (stops.whole outcome sent step goes lost) = record {
    good = going_on limit old new good (framed step) goes;
    sound = still_sound event outcome step;
    first = λ events rest last steps goods.
        let all = one_more event outcome step events rest last steps goods in
        (outcome ∷ rest, all.0, (outcome, refl), all.1);
  }
  becomes event (stops.fails outcome place sent step refused fails lost) = record {
    good = failing limit old new good (framed step) event (count_in outcome) place fails;
    sound = still_sound event outcome step;
    first = λ events rest last steps goods.
        let all = one_more event outcome step events rest last steps goods in
        (outcome ∷ rest, all.0, (outcome, refl), all.1);
  }
  becomes event (stops.before place by same stop) = record {
    good = stopping limit old new good (framed_is old.world new.world same) place stop;
    sound = subst (λ (w : World). IsSound limit w) (sym same) sound;
    first = λ events rest last steps goods.
        (rest, subst (λ (w : World). Steps limit w events rest last) same steps, refl, goods);
  }
  becomes event (stops.before_but place late by found is stop) =
      let would = good place late found in
      let step : Step limit old.world late.event would.outcome new.world = subst (λ (w : World). Step limit old.world late.event would.outcome w) (sym is) would.step in
      record {
        good = stopping limit old new good (framed step) place stop;
        sound = still_sound late.event would.outcome step;
        first = λ events rest last steps goods.
            let all = one_more late.event would.outcome step events rest last steps goods in
            (would.outcome ∷ rest, all.0, (would.outcome, refl), all.1);
      }
  becomes event (stops.after outcome place sent by step stop) = record {
    good = stopping limit old new good (framed step) place stop;
    sound = still_sound event outcome step;
    first = λ events rest last steps goods.
        let all = one_more event outcome step events rest last steps goods in
        (outcome ∷ rest, all.0, (outcome, refl), all.1);
  }
  becomes event (stops.after_entries count outcome place sent by step refused stop) = record {
    good = stopping limit old new good (framed step) place stop;
    sound = still_sound event outcome step;
    first = λ events rest last steps goods.
        let all = one_more event outcome step events rest last steps goods in
        (outcome ∷ rest, all.0, (outcome, refl, refused), all.1);
  }

-- ---- one behind another

run_on : (law : StepsAreSound) (limit : ℕ) → limit < 2 ^ 32 → (old : Standing) (list : List Marked) (new : Standing) → AllGoodAt limit old → IsSound limit old.world
    → RunsWithStops limit old list new
    → (outcomes : List Outcome) × Steps limit old.world (left_events list) outcomes new.world × AreTold list outcomes × AllGood outcomes × IsSound limit new.world
run_on law limit small old [] new good sound same =
    ([], ap (λ (s : Standing). s.world) same, refl, tt, subst (λ (s : Standing). IsSound limit s.world) (sym same) sound)
run_on law limit small old (one ∷ list) new good sound (between, happens, more) =
    let b = becomes law limit small old between good sound one.event happens in
    let rest = run_on law limit small between list new b.good b.sound more in
    let all = b.first (left_events list) rest.0 new.world rest.1 rest.3 in
    (all.0, all.1, (rest.0, all.2, rest.2), all.3, rest.4)

pub run_with_stops : StepsAreSound → SoundHasHeadline → RunWithStops
run_with_stops law headline limit world list new small sound runs =
    let all = run_on law limit small (opened world) list new (λ place late at. absurd (in_none [] late refl at)) sound runs in
    (all.0, all.1, all.2, all.3, all.4, headline limit new.world all.4)
