-- What a step makes of the store in which it writes it makes of that store in any world where that store keeps the same.
use Rattle.std.proofs.Common.{◌≡◌, ◌∙◌, ◌++◌, ℕ, List, [], ◌∷◌, Option, Some, None, length, slice_get, slice_set, refl, sym, ap, subst, append-nil}
use Rattle.std.proofs.lemmas.List.{append_cancel_left}
use Rattle.std.specs.Prelude.{IsSome}
use Rattle.cs_store.specs.declared.log.entry.LogEntry.{LogEntry}
use Rattle.cs_replica.specs.Edited.{with_pending}
use Rattle.cs_exchange.specs.pushing.Pushes.{grounded, pushed, request_of}
use Rattle.cs_wire.specs.Requests.{AsksCatch, AsksPull}
use Rattle.cs_world.specs.Steps as step
use Rattle.cs_world.specs.Steps.{Step, addressee, receiver}
use Rattle.cs_world.specs.World.{Asks, IsMember, IsMessage, Member, Orders, Replies, Sent, Tells, World, with_member, with_message}
use Rattle.cs_world.specs.declared.event.Event.{Event}
use Rattle.cs_world.specs.declared.event.Event.TheVariants.{AskCatch, AskPull, AskWiden, Deliver, MakePush, OnEdit, Resend, Restart}
use Rattle.cs_world.specs.declared.outcome.Outcome.{Outcome}
use Rattle.cs_world.specs.declared.outcome.Outcome.TheVariants as told
use Rattle.cs_world.specs.Left.{AtHub, AtReplica, Kept, Place, kept_at, turned}
use Rattle.cs_world.specs.Moves.{HasGoneOn}
use Rattle.cs_world.specs.Stops.{Late, WouldStep, place_of, reader_of}
use Rattle.cs_world.proofs.Found.{set_same, set_there, still}

-- ---- places

-- who an event is for is told by where it writes
to_replica : (world : World) (event : Event) (q : ℕ) → place_of world event ≡ Some (AtReplica q) → addressee world event ≡ Some q
to_replica world (OnEdit r asked) q is = cc
to_replica world (MakePush r) q is = cc
to_replica world (Resend r) q is = cc
to_replica world (AskPull r limit) q is = cc
to_replica world (AskCatch r limit) q is = cc
to_replica world (Deliver k wishes) q is = of_message (slice_get world.messages k) is
  where
    of_message : (message : Option Sent) → reader_of message ≡ Some (AtReplica q) → receiver message ≡ Some q
    of_message (Some (Asks r asked)) at = absurd (let no = at in cc)
    of_message (Some (Tells r answer)) at = cc
    of_message (Some (Orders asked)) at = absurd (let no = at in cc)
    of_message (Some (Replies answer)) at = absurd (let no = at in cc)
    of_message None at = absurd (let no = at in cc)
to_replica world (Restart r) q is = cc
to_replica world (AskWiden wider) q is = absurd (let no = is in cc)

to_hub : (world : World) (event : Event) → place_of world event ≡ Some AtHub → addressee world event ≡ None
to_hub world (OnEdit r asked) is = absurd (let no = is in cc)
to_hub world (MakePush r) is = absurd (let no = is in cc)
to_hub world (Resend r) is = absurd (let no = is in cc)
to_hub world (AskPull r limit) is = absurd (let no = is in cc)
to_hub world (AskCatch r limit) is = absurd (let no = is in cc)
to_hub world (Deliver k wishes) is = of_message (slice_get world.messages k) is
  where
    of_message : (message : Option Sent) → reader_of message ≡ Some AtHub → receiver message ≡ None
    of_message (Some (Asks r asked)) at = refl
    of_message (Some (Tells r answer)) at = absurd (let no = at in cc)
    of_message (Some (Orders asked)) at = refl
    of_message (Some (Replies answer)) at = refl
    of_message None at = refl
to_hub world (Restart r) is = absurd (let no = is in cc)
to_hub world (AskWiden wider) is = refl

-- ---- two worlds in which a store keeps the same

pub record Agree (w w2 : World) (place : Place) : Type 0 where
  pub tables : w2.tables ≡ w.tables
  pub messages : (k : ℕ) (message : Sent) → IsMessage w k message → IsMessage w2 k message
  pub same : kept_at place w2 ≡ kept_at place w

-- what a step makes of a store, in whichever world
pub record Made (limit : ℕ) (w : World) (event : Event) (new : World) (place : Place) : Type 0 where
  pub left : Kept place
  pub sent : List Sent
  pub is : new ≡ turned place w left sent
  pub again : (w2 : World) → Agree w w2 place → (outcome : Outcome) × Step limit w2 event outcome (turned place w2 left sent)

-- ---- a replica's store

module _ (limit : ℕ) (w : World) (q : ℕ) (m : Member) (there : IsMember w q m) where
  -- a step that changes nothing
  stays : (w2 : World) → IsMember w2 q m → turned (AtReplica q) w2 m [] ≡ w2
  stays w2 at = ap (λ (ms : List Member). record w2 { members = ms; messages = w2.messages ++ [] }) (set_same w2.members q m at)
      ∙ ap (λ (ss : List Sent). record w2 { messages = ss }) (append-nil w2.messages)

  nothing_made : (event : Event) → ((w2 : World) → Agree w w2 (AtReplica q) → (outcome : Outcome) × Step limit w2 event outcome w2) → Made limit w event w (AtReplica q)
  nothing_made event so = record {
    left = m;
    sent = [];
    is = sym (stays w there);
    again = λ w2 a.
        let s = so w2 a in
        (s.0, subst (λ (n : World). Step limit w2 event s.0 n) (sym (stays w2 (a.same ∙ there))) s.1);
  }

  -- a message is sent, and that is all
  sends : (w2 : World) (message : Sent) → IsMember w2 q m → turned (AtReplica q) w2 m (message ∷ []) ≡ with_message w2 message
  sends w2 message at = ap (λ (ms : List Member). record w2 { members = ms; messages = w2.messages ++ message ∷ [] }) (set_same w2.members q m at)

  only_sent : (event : Event) (message : Sent) → ((w2 : World) → Agree w w2 (AtReplica q) → (outcome : Outcome) × Step limit w2 event outcome (with_message w2 message))
      → Made limit w event (with_message w message) (AtReplica q)
  only_sent event message so = record {
    left = m;
    sent = message ∷ [];
    is = sym (sends w message there);
    again = λ w2 a.
        let s = so w2 a in
        (s.0, subst (λ (n : World). Step limit w2 event s.0 n) (sym (sends w2 message (a.same ∙ there))) s.1);
  }

  -- the replica becomes another, and that is all
  only_member : (event : Event) (after : Member) → ((w2 : World) → Agree w w2 (AtReplica q) → (outcome : Outcome) × Step limit w2 event outcome (with_member w2 q after))
      → Made limit w event (with_member w q after) (AtReplica q)
  only_member event after so = record {
    left = after;
    sent = [];
    is = ap (λ (ss : List Sent). record w { members = slice_set w.members q after; messages = ss }) (sym (append-nil w.messages));
    again = λ w2 a.
        let s = so w2 a in
        (s.0, subst (λ (n : World). Step limit w2 event s.0 n) (ap (λ (ss : List Sent). record w2 { members = slice_set w2.members q after; messages = ss }) (sym (append-nil w2.messages))) s.1);
  }

module _ (limit : ℕ) (w : World) (q : ℕ) (m : Member) (there : IsMember w q m) where
  -- what is made of one replica's store is made of that of the replica that is meant
  of_replica : (r : ℕ) (event : Event) (new : World) → Some (AtReplica r) ≡ Some (AtReplica q) → Made limit w event new (AtReplica r) → Made limit w event new (AtReplica q)
  of_replica r event new by made =
      let same : r ≡ q = (let e = by in cc) in
      subst (λ (i : ℕ). Made limit w event new (AtReplica i)) same made

  pub made_at : {event : Event} {outcome : Outcome} {new : World} → Step limit w event outcome new → place_of w event ≡ Some (AtReplica q) → Made limit w event new (AtReplica q)
  made_at (step.edits {r = r} {asked = asked} {before = before} {next = next} {left = left} count was made shows) by =
      let after : Member = record before { position = with_pending before.position count; view = next } in
      of_replica r (OnEdit r asked) (with_member w r after) by
      (only_member limit w r before was (OnEdit r asked) after (λ w2 a. (told.Done, step.edits {left = left} count (a.same ∙ was) made shows)))
  made_at (step.edits_not {r = r} {asked = asked} {before = before} {fault = fault} was why) by =
      of_replica r (OnEdit r asked) w by
      (nothing_made limit w r before was (OnEdit r asked) (λ w2 a. (told.NotEdited fault, step.edits_not (a.same ∙ was) why)))
  made_at (step.pushes {r = r} {before = before} {left = left} {changes = changes} was made) by =
      let after : Member = record before { position = pushed before.position changes; view = grounded before.view } in
      let message : Sent = Asks r (request_of (pushed before.position changes) changes) in
      of_replica r (MakePush r) (with_message (with_member w r after) message) by (record {
        left = after;
        sent = message ∷ [];
        is = refl;
        again = λ w2 a. (told.Sent (length w2.messages), step.pushes {left = left} (a.same ∙ was) made);
      })
  made_at (step.pushes_not {r = r} {before = before} {fault = fault} was why) by =
      of_replica r (MakePush r) w by
      (nothing_made limit w r before was (MakePush r) (λ w2 a. (told.NotPushed fault, step.pushes_not (a.same ∙ was) why)))
  made_at (step.resends {r = r} {before = before} {changes = changes} was flight) by =
      let message : Sent = Asks r (request_of before.position changes) in
      of_replica r (Resend r) (with_message w message) by
      (only_sent limit w r before was (Resend r) message (λ w2 a. (told.Sent (length w2.messages), step.resends (a.same ∙ was) flight)))
  made_at (step.resends_not {r = r} {before = before} {fault = fault} was why) by =
      of_replica r (Resend r) w by
      (nothing_made limit w r before was (Resend r) (λ w2 a. (told.NotPushed fault, step.resends_not (a.same ∙ was) why)))
  made_at (step.asks {r = r} {count = count} {before = before} few was) by =
      let message : Sent = Asks r (AsksPull before.position.version count) in
      of_replica r (AskPull r count) (with_message w message) by
      (only_sent limit w r before was (AskPull r count) message (λ w2 a. (told.Sent (length w2.messages), step.asks few (a.same ∙ was))))
  made_at (step.catches {r = r} {count = count} {before = before} few was) by =
      let message : Sent = Asks r (AsksCatch before.position.id before.position.version count) in
      of_replica r (AskCatch r count) (with_message w message) by
      (only_sent limit w r before was (AskCatch r count) message (λ w2 a. (told.Sent (length w2.messages), step.catches few (a.same ∙ was))))
  made_at (step.restarts {r = r} {before = before} was) by =
      of_replica r (Restart r) w by
      (nothing_made limit w r before was (Restart r) (λ w2 a. (told.Done, step.restarts (a.same ∙ was))))
  made_at (step.restarts_not {r = r} {before = before} {fault = fault} was why) by =
      of_replica r (Restart r) w by
      (nothing_made limit w r before was (Restart r) (λ w2 a. (told.NotReloaded fault, step.restarts_not (a.same ∙ was) why)))
  made_at (step.serves answer at fits serves) by = absurd (let no = sym (ap reader_of at) ∙ by in cc)
  made_at (step.obeys answer at fits serves) by = absurd (let no = sym (ap reader_of at) ∙ by in cc)
  made_at (step.orders fits) by = absurd (let no = by in cc)
  made_at (step.ignores at) by = absurd (let no = sym (ap reader_of at) ∙ by in cc)
  made_at (step.hears {k = k} {r = r} {wishes = wishes} {answer = answer} {before = before} {after = after} {result = result} at was hears) by =
      of_replica r (Deliver k wishes) (with_member w r after) (sym (ap reader_of at) ∙ by)
      (only_member limit w r before was (Deliver k wishes) after (λ w2 a. (step.heard result, step.hears (a.messages k (Tells r answer) at) (a.same ∙ was) hears)))
  made_at (step.no_replica {event = event} {r = r} to none) by =
      let both : Some r ≡ Some q = sym to ∙ to_replica w event q by in
      let same : r ≡ q = (let e = both in cc) in
      absurd (let no = sym (subst (λ (i : ℕ). slice_get w.members i ≡ None) same none) ∙ there in cc)
  made_at (step.no_message none) by = absurd (let no = sym (ap reader_of none) ∙ by in cc)
  made_at (step.no_memory {event = event}) by = nothing_made limit w q m there event (λ w2 a. (told.Memory, step.no_memory))

  -- what it becomes is told by the world after
  turned_one : (left other : Member) (sent its : List Sent) → turned (AtReplica q) w left sent ≡ turned (AtReplica q) w other its → (left ≡ other) × (sent ≡ its)
  turned_one left other sent its is =
      let at : slice_get (slice_set w.members q left) q ≡ slice_get (slice_set w.members q other) q = ap (λ (n : World). slice_get n.members q) is in
      let both : Some left ≡ Some other = sym (set_there w.members q left m there) ∙ (at ∙ set_there w.members q other m there) in
      ((let e = both in cc), append_cancel_left w.messages sent its (ap (λ (n : World). n.messages) is))

  pub step_on : (event : Event) (outcome : Outcome) (left : Member) (sent : List Sent) (w2 : World) → Step limit w event outcome (turned (AtReplica q) w left sent)
      → place_of w event ≡ Some (AtReplica q) → Agree w w2 (AtReplica q) → (other : Outcome) × Step limit w2 event other (turned (AtReplica q) w2 left sent)
  step_on event outcome left sent w2 step by a =
      let made = made_at step by in
      let same = turned_one left made.left sent made.sent made.is in
      let s = made.again w2 a in (
        s.0,
        subst (λ (x : Member). Step limit w2 event s.0 (turned (AtReplica q) w2 x sent)) (sym same.0)
            (subst (λ (ss : List Sent). Step limit w2 event s.0 (turned (AtReplica q) w2 made.left ss)) (sym same.1) s.1),
      )

-- ---- the hub's store

module _ (limit : ℕ) (w : World) where
  no_replicas : (r : ℕ) → Some (AtReplica r) ≡ Some AtHub → ⊥
  no_replicas r is = cc

  made_by_hub : {event : Event} {outcome : Outcome} {new : World} → Step limit w event outcome new → place_of w event ≡ Some AtHub → Made limit w event new AtHub
  made_by_hub (step.edits {r = r} count was made shows) by = absurd (no_replicas r by)
  made_by_hub (step.edits_not {r = r} was why) by = absurd (no_replicas r by)
  made_by_hub (step.pushes {r = r} was made) by = absurd (no_replicas r by)
  made_by_hub (step.pushes_not {r = r} was why) by = absurd (no_replicas r by)
  made_by_hub (step.resends {r = r} was flight) by = absurd (no_replicas r by)
  made_by_hub (step.resends_not {r = r} was why) by = absurd (no_replicas r by)
  made_by_hub (step.asks {r = r} few was) by = absurd (no_replicas r by)
  made_by_hub (step.catches {r = r} few was) by = absurd (no_replicas r by)
  made_by_hub (step.restarts {r = r} was) by = absurd (no_replicas r by)
  made_by_hub (step.restarts_not {r = r} was why) by = absurd (no_replicas r by)
  made_by_hub (step.serves {k = k} {r = r} {asked = asked} {log = log} answer at fits serves) by = record {
    left = log;
    sent = Tells r answer ∷ [];
    is = refl;
    again = λ w2 a.
        let log_is : w2.log ≡ w.log = (let e = a.same in cc) in
        (told.Sent (length w2.messages), step.serves answer (a.messages k (Asks r asked) at) fits (rw (a.tables, log_is) serves));
  }
  made_by_hub (step.obeys {k = k} {asked = asked} {log = log} answer at fits serves) by = record {
    left = log;
    sent = Replies answer ∷ [];
    is = refl;
    again = λ w2 a.
        let log_is : w2.log ≡ w.log = (let e = a.same in cc) in
        (told.Sent (length w2.messages), step.obeys answer (a.messages k (Orders asked) at) fits (rw (a.tables, log_is) serves));
  }
  made_by_hub (step.orders fits) by = absurd (let no = by in cc)
  made_by_hub (step.ignores at) by = absurd (let no = sym (ap reader_of at) ∙ by in cc)
  made_by_hub (step.hears {r = r} at was hears) by = absurd (no_replicas r (sym (ap reader_of at) ∙ by))
  made_by_hub (step.no_replica {event = event} to none) by = absurd (let no = sym to ∙ to_hub w event by in cc)
  made_by_hub (step.no_message none) by = absurd (let no = sym (ap reader_of none) ∙ by in cc)
  made_by_hub (step.no_memory {event = event}) by = record {
    left = w.log;
    sent = [];
    is = ap (λ (ss : List Sent). record w { messages = ss }) (sym (append-nil w.messages));
    again = λ w2 a.
        let log_is : w2.log ≡ w.log = (let e = a.same in cc) in (
          told.Memory,
          subst (λ (n : World). Step limit w2 event told.Memory n)
              (ap (λ (l : List LogEntry). record w2 { log = l; messages = w2.messages }) log_is
              ∙ ap (λ (ss : List Sent). record w2 { log = w.log; messages = ss }) (sym (append-nil w2.messages)))
              step.no_memory,
        );
  }

  hub_step_on : (event : Event) (outcome : Outcome) (left : List LogEntry) (sent : List Sent) (w2 : World) → Step limit w event outcome (turned AtHub w left sent)
      → place_of w event ≡ Some AtHub → Agree w w2 AtHub → (other : Outcome) × Step limit w2 event other (turned AtHub w2 left sent)
  hub_step_on event outcome left sent w2 step by a =
      let made = made_by_hub step by in
      let log : left ≡ made.left = ap (λ (n : World). n.log) made.is in
      let messages : sent ≡ made.sent = append_cancel_left w.messages sent made.sent (ap (λ (n : World). n.messages) made.is) in
      let s = made.again w2 a in (
        s.0,
        subst (λ (x : List LogEntry). Step limit w2 event s.0 (turned AtHub w2 x sent)) (sym log)
            (subst (λ (ss : List Sent). Step limit w2 event s.0 (turned AtHub w2 made.left ss)) (sym messages) s.1),
      )

-- ---- a failed commit

some_of : {X : Type 0} (o : Option X) → IsSome o → (x : X) × (o ≡ Some x)
some_of None is = absurd (let no = is in cc)
some_of (Some x) is = (x, refl)

-- where an event writes is told by the messages that were there
place_on : (w w2 : World) → ((k : ℕ) (message : Sent) → IsMessage w k message → IsMessage w2 k message) → (event : Event) (place : Place) → place_of w event ≡ Some place → place_of w2 event ≡ Some place
place_on w w2 more (OnEdit r asked) place is = is
place_on w w2 more (MakePush r) place is = is
place_on w w2 more (Resend r) place is = is
place_on w w2 more (AskPull r limit) place is = is
place_on w w2 more (AskCatch r limit) place is = is
place_on w w2 more (Deliver k wishes) place is = of_message (slice_get w.messages k) refl is
  where
    of_message : (message : Option Sent) → slice_get w.messages k ≡ message → reader_of message ≡ Some place → reader_of (slice_get w2.messages k) ≡ Some place
    of_message None at none = absurd (let no = none in cc)
    of_message (Some message) at reader = ap reader_of (more k message at) ∙ reader
place_on w w2 more (Restart r) place is = is
place_on w w2 more (AskWiden wider) place is = is

pub would_on : (limit : ℕ) (w w2 : World) (place : Place) (late : Late place) → WouldStep limit w place late → Agree w w2 place → WouldStep limit w2 place late
would_on limit w w2 AtHub late would a =
    let s = hub_step_on limit w late.event would.outcome late.left late.sent w2 would.step would.by a in
    record { there = refl; by = place_on w w2 a.messages late.event AtHub would.by; outcome = s.0; step = s.1 }
would_on limit w w2 (AtReplica q) late would a =
    let m = some_of (slice_get w.members q) would.there in
    let s = step_on limit w q m.0 m.1 late.event would.outcome late.left late.sent w2 would.step would.by a in
    record { there = rw a.same would.there; by = place_on w w2 a.messages late.event (AtReplica q) would.by; outcome = s.0; step = s.1 }

-- ---- what every step leaves

framed_same : (w : World) → HasGoneOn w w
framed_same w = record { tables = refl; messages = λ k message at. at }

pub framed_is : (w new : World) → new ≡ w → HasGoneOn w new
framed_is w new same = subst (λ (n : World). HasGoneOn w n) (sym same) (framed_same w)

framed_sent : (w n : World) (message : Sent) → n.tables ≡ w.tables → n.messages ≡ w.messages ++ message ∷ [] → HasGoneOn w n
framed_sent w n message tables messages = record {
  tables = tables;
  messages = λ k other at. rw messages (still w.messages (message ∷ []) other k at);
}

pub framed : {limit : ℕ} {w : World} {event : Event} {outcome : Outcome} {new : World} → Step limit w event outcome new → HasGoneOn w new
framed (step.edits count was made shows) = record { tables = refl; messages = λ k message at. at }
framed {w = w} (step.edits_not was why) = framed_same w
framed {w = w} {new = new} (step.pushes {r = r} {before = before} {changes = changes} was made) =
    framed_sent w new (Asks r (request_of (pushed before.position changes) changes)) refl refl
framed {w = w} (step.pushes_not was why) = framed_same w
framed {w = w} {new = new} (step.resends {r = r} {before = before} {changes = changes} was flight) = framed_sent w new (Asks r (request_of before.position changes)) refl refl
framed {w = w} (step.resends_not was why) = framed_same w
framed {w = w} {new = new} (step.asks {r = r} {count = count} {before = before} few was) = framed_sent w new (Asks r (AsksPull before.position.version count)) refl refl
framed {w = w} {new = new} (step.catches {r = r} {count = count} {before = before} few was) =
    framed_sent w new (Asks r (AsksCatch before.position.id before.position.version count)) refl refl
framed {w = w} (step.restarts was) = framed_same w
framed {w = w} (step.restarts_not was why) = framed_same w
framed {w = w} {new = new} (step.serves {r = r} answer at fits serves) = framed_sent w new (Tells r answer) refl refl
framed {w = w} {new = new} (step.obeys answer at fits serves) = framed_sent w new (Replies answer) refl refl
framed {w = w} {new = new} (step.orders {wider = wider} fits) = framed_sent w new (Orders (step.asked_of_wider wider)) refl refl
framed {w = w} (step.ignores at) = framed_same w
framed (step.hears at was hears) = record { tables = refl; messages = λ k message at. at }
framed {w = w} (step.no_replica to none) = framed_same w
framed {w = w} (step.no_message none) = framed_same w
framed {w = w} step.no_memory = framed_same w
