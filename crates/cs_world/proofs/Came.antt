-- What an event came to, by its kind: each step read back.
use Rattle.std.proofs.Common.{◌≡◌, ◌∙◌, ℕ, List, Option, Some, None, Result, Ok, Err, length, slice_get, refl, sym, ap, inl, inr}
use Rattle.std.specs.Prelude.{◌⊎◌, IsSome}
use Rattle.cs_conflict.specs.declared.wish.Wish.{Wish}
use Rattle.cs_hub.specs.Serves.{ServesIf}
use Rattle.cs_hub.specs.judgement.Judged.{hub_of}
use Rattle.cs_store.specs.declared.log.entry.LogEntry.{LogEntry}
use Rattle.cs_replica.specs.Step.{IsAskedAgain, IsEditedTo, IsPushAsked}
use Rattle.cs_normal.specs.declared.normal.TableChanges.{TableChanges}
use Rattle.cs_opening.specs.declared.fault.OpenFault.{OpenFault}
use Rattle.cs_opening.specs.declared.fault.OpenFault.TheVariants as opening
use Rattle.cs_pending.specs.declared.fault.EditFault.{EditFault}
use Rattle.cs_pending.specs.position.Shows.{flown}
use Rattle.cs_pending.specs.declared.position.position.Position.{Position}
use Rattle.cs_exchange.specs.declared.pulling.fault.AnswerFault.{AnswerFault}
use Rattle.cs_exchange.specs.pushing.Pushes.{grounded, pushed, request_of}
use Rattle.cs_exchange.specs.declared.pushing.fault.PushFault.{PushFault}
use Rattle.cs_replica.specs.Edited.{with_pending}
use Rattle.cs_replica.specs.declared.told.Told.{Told}
use Rattle.cs_replica.specs.declared.told.Told.TheVariants.{Ignored}
use Rattle.cs_value.specs.declared.edit.Edit.{Edit}
use Rattle.cs_wire.specs.Answers.{FitsAnswer, answer_spelling}
use Rattle.cs_wire.specs.Requests.{Asked, AsksCatch, AsksPull, request_spelling}
use Rattle.cs_wire.specs.declared.answer.Answer.{Answer}
use Rattle.cs_world.specs.Steps as step
use Rattle.cs_world.specs.Steps.{Hears, Step, addressee, heard}
use Rattle.cs_world.specs.Wider.{Wider}
use Rattle.cs_world.specs.World.{Asks, IsMember, IsMessage, Member, Orders, Replies, Sent, Tells, World, with_log, with_member, with_message}
use Rattle.cs_world.specs.declared.event.Event.{Event}
use Rattle.cs_world.specs.declared.event.Event.TheVariants.{AskCatch, AskPull, AskWiden, Deliver, MakePush, OnEdit, Resend, Restart}
use Rattle.cs_world.specs.declared.outcome.Outcome.{Outcome}
use Rattle.cs_world.specs.declared.outcome.Outcome.TheVariants as told
use Rattle.cs_world.proofs.Found.{set_same}

-- ---- results as outcomes

abbrev pub edit_outcome : Result (Unit {0}) EditFault → Outcome
edit_outcome (Ok done) = told.Done
edit_outcome (Err fault) = told.NotEdited fault

-- of what is asked as the next message
abbrev pub ask_outcome : ℕ → Result Asked PushFault → Outcome
ask_outcome number (Ok asked) = told.Sent number
ask_outcome number (Err fault) = told.NotPushed fault

-- the world where that was sent
abbrev pub with_asked : World → ℕ → Result Asked PushFault → World
with_asked world r (Ok asked) = with_message world (Asks r asked)
with_asked world r (Err fault) = world

abbrev pub read_outcome : Result (Unit {0}) OpenFault → Outcome
read_outcome (Ok done) = told.Done
read_outcome (Err fault) = told.NotReloaded fault

abbrev pub IsRead : Result (Unit {0}) OpenFault → Type 0
IsRead (Ok done) = Unit {0}
IsRead (Err fault) = (fault ≡ opening.Memory) ⊎ (fault ≡ opening.Device)

-- ---- what is asked, by a replica or for none, and its answer

abbrev pub asks_for : Option ℕ → Asked → Sent
asks_for (Some r) asked = Asks r asked
asks_for None asked = Orders asked

abbrev pub tells_to : Option ℕ → Answer → Sent
tells_to (Some r) answer = Tells r answer
tells_to None answer = Replies answer

module _ (limit : ℕ) (old : World) where
  -- ---- what each event comes to

  pub record Edited (r : ℕ) (asked : Edit) (outcome : Outcome) (new : World) : Type 0 where
    pub before : Member
    pub after : Member
    pub result : Result (Unit {0}) EditFault
    pub was : IsMember old r before
    pub goes : IsEditedTo asked result before after
    pub outcome_is : outcome ≡ edit_outcome result
    pub new_is : new ≡ with_member old r after

  pub record Pushed (r : ℕ) (outcome : Outcome) (new : World) : Type 0 where
    pub before : Member
    pub after : Member
    pub result : Result Asked PushFault
    pub was : IsMember old r before
    pub goes : IsPushAsked result before after
    pub outcome_is : outcome ≡ ask_outcome (length old.messages) result
    pub new_is : new ≡ with_asked (with_member old r after) r result

  pub record AskedOnceMore (r : ℕ) (outcome : Outcome) (new : World) : Type 0 where
    pub before : Member
    pub result : Result Asked PushFault
    pub was : IsMember old r before
    pub goes : IsAskedAgain result before.position
    pub outcome_is : outcome ≡ ask_outcome (length old.messages) result
    pub new_is : new ≡ with_asked old r result

  pub record AskedFrom (r : ℕ) (asks : Position → Asked) (outcome : Outcome) (new : World) : Type 0 where
    pub before : Member
    pub was : IsMember old r before
    pub outcome_is : outcome ≡ told.Sent (length old.messages)
    pub new_is : new ≡ with_message old (Asks r (asks before.position))

  pub record Reread (r : ℕ) (outcome : Outcome) (new : World) : Type 0 where
    pub before : Member
    pub was : IsMember old r before
    pub result : Result (Unit {0}) OpenFault
    pub goes : IsRead result
    pub outcome_is : outcome ≡ read_outcome result
    pub new_is : new ≡ old

  pub record Answered (k : ℕ) (outcome : Outcome) (new : World) : Type 0 where
    pub to : Option ℕ
    pub asked : Asked
    pub answer : Answer
    pub log : List LogEntry
    pub there : IsMessage old k (asks_for to asked)
    pub fits : FitsAnswer answer
    pub goes : ServesIf (Unit {0}) limit (hub_of old.tables old.log) (request_spelling asked) (answer_spelling answer) (hub_of old.tables log)
    pub outcome_is : outcome ≡ told.Sent (length old.messages)
    pub new_is : new ≡ with_message (with_log old log) (tells_to to answer)

  pub record HeardOf (k : ℕ) (wishes : List Wish) (outcome : Outcome) (new : World) : Type 0 where
    pub r : ℕ
    pub answer : Answer
    pub before : Member
    pub after : Member
    pub result : Result Told AnswerFault
    pub there : IsMessage old k (Tells r answer)
    pub was : IsMember old r before
    pub goes : Hears before answer wishes result after
    pub outcome_is : outcome ≡ heard result
    pub new_is : new ≡ with_member old r after

  pub record OrderedOf (wider : Wider) (outcome : Outcome) (new : World) : Type 0 where
    pub outcome_is : outcome ≡ told.Sent (length old.messages)
    pub new_is : new ≡ with_message old (Orders (step.asked_of_wider wider))

  pub record ToldNobody (k : ℕ) (outcome : Outcome) (new : World) : Type 0 where
    pub answer : Answer
    pub there : IsMessage old k (Replies answer)
    pub outcome_is : outcome ≡ told.Heard Ignored
    pub new_is : new ≡ old

  pub record Missed (k : ℕ) (outcome : Outcome) (new : World) : Type 0 where
    pub none : slice_get old.messages k ≡ None
    pub outcome_is : outcome ≡ told.NoMessage
    pub new_is : new ≡ old

  abbrev pub Came : Event → Outcome → World → Type 0
  Came (OnEdit r asked) outcome new = Edited r asked outcome new
  Came (MakePush r) outcome new = Pushed r outcome new
  Came (Resend r) outcome new = AskedOnceMore r outcome new
  Came (AskPull r count) outcome new = AskedFrom r (λ position. AsksPull position.version count) outcome new
  Came (AskCatch r count) outcome new = AskedFrom r (λ position. AsksCatch position.id position.version count) outcome new
  Came (AskWiden wider) outcome new = OrderedOf wider outcome new
  Came (Deliver k wishes) outcome new =
      Missed k outcome new ⊎ (Answered k outcome new ⊎ (ToldNobody k outcome new ⊎ HeardOf k wishes outcome new))
  Came (Restart r) outcome new = Reread r outcome new

  -- there is no such replica
  pub record Lacks (event : Event) (outcome : Outcome) (new : World) : Type 0 where
    pub r : ℕ
    pub to : addressee old event ≡ Some r
    pub none : slice_get old.members r ≡ None
    pub outcome_is : outcome ≡ told.NoReplica
    pub new_is : new ≡ old

  abbrev pub Comes : Event → Outcome → World → Type 0
  Comes event outcome new = ((outcome ≡ told.Memory) × (new ≡ old)) ⊎ (Lacks event outcome new ⊎ Came event outcome new)

  -- ---- each step is such a one

  put_back : (r : ℕ) (member : Member) → IsMember old r member → old ≡ with_member old r member
  put_back r member was = sym (ap (λ (ms : List Member). record old { members = ms }) (set_same old.members r member was))

  flies : (flight : Option (List TableChanges)) (changes : List TableChanges) → flight ≡ Some changes → IsSome flight × (changes ≡ flown flight)
  flies flight changes is = rw is (refl, refl)

  pub came : {event : Event} {outcome : Outcome} {new : World} → Step limit old event outcome new → Comes event outcome new
  came (step.edits {r = r} {asked = asked} {before = before} {next = next} {left = left} count was made shows) = inr (inr (record {
    before = before;
    after = record before { position = with_pending before.position count; view = next };
    result = Ok tt;
    was = was;
    goes = (count, next, left, refl, made, shows);
    outcome_is = refl;
    new_is = refl;
  }))
  came (step.edits_not {r = r} {asked = asked} {before = before} {fault = fault} was why) = inr (inr (record {
    before = before;
    after = before;
    result = Err fault;
    was = was;
    goes = (refl, why);
    outcome_is = refl;
    new_is = put_back r before was;
  }))
  came (step.pushes {r = r} {before = before} {left = left} {changes = changes} was made) = inr (inr (record {
    before = before;
    after = record before { position = pushed before.position changes; view = grounded before.view };
    result = Ok (request_of (pushed before.position changes) changes);
    was = was;
    goes = (changes, left, refl, made, refl);
    outcome_is = refl;
    new_is = refl;
  }))
  came (step.pushes_not {r = r} {before = before} {fault = fault} was why) = inr (inr (record {
    before = before;
    after = before;
    result = Err fault;
    was = was;
    goes = (refl, why);
    outcome_is = refl;
    new_is = put_back r before was;
  }))
  came (step.resends {r = r} {before = before} {changes = changes} was flight) =
      let f = flies before.position.flight changes flight in
      inr (inr (record {
        before = before;
        result = Ok (request_of before.position changes);
        was = was;
        goes = (f.0, ap (request_of before.position) f.1);
        outcome_is = refl;
        new_is = refl;
      }))
  came (step.resends_not {r = r} {before = before} {fault = fault} was why) = inr (inr (record {
    before = before;
    result = Err fault;
    was = was;
    goes = why;
    outcome_is = refl;
    new_is = refl;
  }))
  came (step.asks {r = r} {count = count} {before = before} few was) = inr (inr (record { before = before; was = was; outcome_is = refl; new_is = refl }))
  came (step.catches {r = r} {count = count} {before = before} few was) = inr (inr (record { before = before; was = was; outcome_is = refl; new_is = refl }))
  came (step.restarts {r = r} {before = before} was) = inr (inr (record { before = before; was = was; result = Ok tt; goes = tt; outcome_is = refl; new_is = refl }))
  came (step.restarts_not {r = r} {before = before} {fault = fault} was why) = inr (inr (record { before = before; was = was; result = Err fault; goes = why; outcome_is = refl; new_is = refl }))
  came (step.serves {k = k} {r = r} {wishes = wishes} {asked = asked} {log = log} answer there fits serves) = inr (inr (inr (inl (record {
    to = Some r;
    asked = asked;
    answer = answer;
    log = log;
    there = there;
    fits = fits;
    goes = serves;
    outcome_is = refl;
    new_is = refl;
  }))))
  came (step.obeys {k = k} {wishes = wishes} {asked = asked} {log = log} answer there fits serves) = inr (inr (inr (inl (record {
    to = None;
    asked = asked;
    answer = answer;
    log = log;
    there = there;
    fits = fits;
    goes = serves;
    outcome_is = refl;
    new_is = refl;
  }))))
  came (step.orders {wider = wider} fits) = inr (inr (record { outcome_is = refl; new_is = refl }))
  came (step.ignores {answer = answer} there) = inr (inr (inr (inr (inl (record { answer = answer; there = there; outcome_is = refl; new_is = refl })))))
  came (step.hears {k = k} {r = r} {wishes = wishes} {answer = answer} {before = before} {after = after} {result = result} there was hears) = inr (inr (inr (inr (inr (record {
    r = r;
    answer = answer;
    before = before;
    after = after;
    result = result;
    there = there;
    was = was;
    goes = hears;
    outcome_is = refl;
    new_is = refl;
  })))))
  came (step.no_replica {event = event} {r = r} to none) = inr (inl (record { r = r; to = to; none = none; outcome_is = refl; new_is = refl }))
  came (step.no_message {k = k} {wishes = wishes} none) = inr (inr (inl (record { none = none; outcome_is = refl; new_is = refl })))
  came (step.no_memory {event = event}) = inl (refl, refl)

  -- ---- what comes to something has its replica

  abbrev found_at : Option ℕ → Option Member
  found_at (Some at) = slice_get old.members at
  found_at None = None

  member_there : (r s : ℕ) (member : Member) → Some r ≡ Some s → IsMember old r member → slice_get old.members s ≡ None → ⊥
  member_there r s member to was none =
      let same : slice_get old.members r ≡ slice_get old.members s = ap found_at to in
      let is : Some member ≡ None = sym was ∙ (same ∙ none) in
      absurd cc

  receiver_there : (k r s : ℕ) (answer : Answer) (member : Member) → IsMessage old k (Tells r answer) → step.receiver (slice_get old.messages k) ≡ Some s → IsMember old r member → slice_get old.members s ≡ None → ⊥
  receiver_there k r s answer member there to was none = member_there r s member (sym (ap step.receiver there) ∙ to) was none

  not_to_one : (k s : ℕ) (message : Option Sent) → slice_get old.messages k ≡ message → step.receiver message ≡ None → step.receiver (slice_get old.messages k) ≡ Some s → ⊥
  not_to_one k s message there none to =
      let is : None ≡ Some s = sym none ∙ (sym (ap step.receiver there) ∙ to) in
      absurd cc

  asked_of_none : (to : Option ℕ) (asked : Asked) → step.receiver (Some (asks_for to asked)) ≡ None
  asked_of_none (Some r) asked = refl
  asked_of_none None asked = refl

  pub has_replica : (event : Event) (outcome : Outcome) (new : World) (s : ℕ) → Came event outcome new → addressee old event ≡ Some s → slice_get old.members s ≡ None → ⊥
  has_replica (OnEdit r asked) outcome new s came to none = member_there r s came.before to came.was none
  has_replica (MakePush r) outcome new s came to none = member_there r s came.before to came.was none
  has_replica (Resend r) outcome new s came to none = member_there r s came.before to came.was none
  has_replica (AskPull r count) outcome new s came to none = member_there r s came.before to came.was none
  has_replica (AskCatch r count) outcome new s came to none = member_there r s came.before to came.was none
  has_replica (Restart r) outcome new s came to none = member_there r s came.before to came.was none
  has_replica (Deliver k wishes) outcome new s (inl missed) to none = not_to_one k s None missed.none refl to
  has_replica (AskWiden wider) outcome new s came to none = let is : None ≡ Some s = to in absurd cc
  has_replica (Deliver k wishes) outcome new s (inr (inl served)) to none = not_to_one k s (Some (asks_for served.to served.asked)) served.there (asked_of_none served.to served.asked) to
  has_replica (Deliver k wishes) outcome new s (inr (inr (inl ignored))) to none = not_to_one k s (Some (Replies ignored.answer)) ignored.there refl to
  has_replica (Deliver k wishes) outcome new s (inr (inr (inr hears))) to none = receiver_there k hears.r s hears.answer hears.before hears.there to hears.was none
