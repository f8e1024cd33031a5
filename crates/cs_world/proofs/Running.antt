-- From the step of an event to a run.
use Rattle.std.proofs.Common.{◌≡◌, ◌<◌, ◌^◌, ◌++◌, ℕ, List, [], ◌∷◌, length, refl, sym, subst, append-nil, append_assoc, arith}
use Rattle.cs_store.specs.declared.store.RowStore.{Ghosts}
use Rattle.cs_world.specs.Laws.{SoundHasHeadline, StepsAreSound}
use Rattle.cs_world.specs.Steps.{Step}
use Rattle.cs_world.specs.World.{World}
use Rattle.cs_world.specs.declared.event.Event.{Event}
use Rattle.cs_world.specs.declared.outcome.Outcome.{Outcome}
use Rattle.cs_world.specs.Holding.{AreHonest, Holding, StandsAt}
use Rattle.cs_world.specs.Fails.{CountsOn, SaysDevice, SomeSaysDevice}
use Rattle.cs_world.specs.Left.{Leaves}
use Rattle.cs_world.specs.Moves.{KeepsLeft, Moves}
use Rattle.cs_world.specs.Reads.{Reads}
use Rattle.cs_world.specs.Runs.{HasHeadline, Runs}
use Rattle.cs_world.proofs.Counted.{counts_more, counts_none}
use Rattle.cs_world.proofs.StopsLocal.{framed, framed_is}

module _ {S : Type 0} (g : Ghosts S) (limit : ℕ) where
  abbrev pub Stands : Holding S → Type 0
  Stands held = AreHonest g held → (world : World) × StandsAt g limit held world × Leaves g limit world held

  pub runs_one : StepsAreSound → limit < 2 ^ 32 → (old new : Holding S) (event : Event) (outcome : Outcome) → Moves g limit old event outcome new
      → Runs g limit old (event ∷ []) (outcome ∷ []) new
  runs_one sound small old new event outcome moves = record {
    was_honest = moves.was_honest;
    ran = λ all world stands.
        let m = moves.moved all world stands in
        let s = sound limit world m.0 event outcome small stands.1 m.1 in
        (m.0, (m.0, m.1, refl), (s.1, tt), (m.2, s.0));
  }

  -- where it stood at a world, it stands at the one after its step, and so it is with what a stop leaves
  pub still_stands : StepsAreSound → limit < 2 ^ 32 → (old new : Holding S) (event : Event) (outcome : Outcome) → Moves g limit old event outcome new → Stands old → Stands new
  still_stands sound small old new event outcome moves stood all =
      let before = stood (moves.was_honest all) in
      let m = moves.moved all before.0 before.1 in
      let s = sound limit before.0 m.0 event outcome small before.1.1 m.1 in
      (m.0, (m.2, s.0), moves.left all before.0 before.1 m.0 (framed m.1) before.2)

  -- and so after what is only read
  pub stands_as_read : (old new : Holding S) → Reads g limit old new → KeepsLeft g limit old new → Stands old → Stands new
  stands_as_read old new reads left stood all =
      let before = stood (reads.was_honest all) in
      (before.0, reads.stands all before.0 before.1, left all before.0 before.1 before.0 (framed_is before.0 before.0 refl) before.2)

  pub has_headline : SoundHasHeadline → (held : Holding S) → Stands held → HasHeadline g limit held
  has_headline sound held stood all =
      let s = stood all in
      (s.0, s.1, sound limit s.0 s.1.1)

  runs_more : (old mid new : Holding S) (event : Event) (outcome : Outcome) (events : List Event) (outcomes : List Outcome) → Runs g limit old (event ∷ []) (outcome ∷ []) mid
      → Runs g limit mid events outcomes new → Runs g limit old (event ∷ events) (outcome ∷ outcomes) new
  runs_more old mid new event outcome events outcomes first rest = record {
    was_honest = λ all. first.was_honest (rest.was_honest all);
    ran = λ all world stands.
        let f = first.ran (rest.was_honest all) world stands in
        let r = rest.ran all f.0 f.3 in
        let one = subst (λ (w : World). Step limit world event outcome w) (sym f.1.2) f.1.1 in
        (r.0, (f.0, one, r.1), (f.2.0, r.2), r.3);
  }

  runs_none : (old : Holding S) → Runs g limit old [] [] old
  runs_none old = record { was_honest = λ all. all; ran = λ all world stands. (world, refl, tt, stands) }

  -- so it is with the counts of failures
  abbrev pub Counting : Holding S → Holding S → List Outcome → Type 0
  Counting old now outcomes = (new : Holding S) (more : List Outcome) → CountsOn g (SomeSaysDevice more) now new → CountsOn g (SomeSaysDevice (outcomes ++ more)) old new

  pub counting_on : (old now next : Holding S) (outcomes others : List Outcome) (outcome : Outcome) → Counting old now outcomes → CountsOn g (SaysDevice outcome) now next → others ≡ outcomes ++ outcome ∷ [] → Counting old next others
  counting_on old now next outcomes others outcome so one is new more counts =
      rw (is, append_assoc) (so new (outcome ∷ more) (counts_more g now next new outcome more one counts))

  pub counted : (old now : Holding S) (outcomes : List Outcome) → Counting old now outcomes → CountsOn g (SomeSaysDevice outcomes) old now
  counted old now outcomes so = subst (λ (os : List Outcome). CountsOn g (SomeSaysDevice os) old now) (append-nil outcomes) (so now [] (counts_none g now))

  -- what follows from here, follows from the start
  abbrev pub Running : Holding S → List Event → Holding S → List Event → List Outcome → Type 0
  Running old all now rest outcomes =
      (new : Holding S) (more : List Outcome) → Runs g limit now rest more new → Runs g limit old all (outcomes ++ more) new

  pub running_on : (old : Holding S) (all : List Event) (now next : Holding S) (event : Event) (rest : List Event) (outcomes others : List Outcome) (outcome : Outcome)
      → Running old all now (event ∷ rest) outcomes → Runs g limit now (event ∷ []) (outcome ∷ []) next → others ≡ outcomes ++ outcome ∷ []
      → Running old all next rest others
  running_on old all now next event rest outcomes others outcome so one is new more runs =
      rw (is, append_assoc) (so new (outcome ∷ more) (runs_more now next new event outcome rest more one runs))

  pub ran : (old : Holding S) (all : List Event) (now : Holding S) (rest : List Event) (outcomes : List Outcome) → length rest ≡ 0 → Running old all now rest outcomes
      → Runs g limit old all outcomes now
  ran old all now [] outcomes none so = subst (λ (os : List Outcome). Runs g limit old all os now) (append-nil outcomes) (so now [] (runs_none now))
  ran old all now (event ∷ rest) outcomes none so = absurd (omega (arith, none))
