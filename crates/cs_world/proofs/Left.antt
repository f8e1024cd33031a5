-- What a stop leaves of a world's stores: what a failed commit may have left is what a step makes, and that goes on.
use Rattle.std.proofs.Common.{◌≡◌, ◌∙◌, ◌++◌, ◌+◌, ◌-◌, ◌<◌, ◌^◌, ℕ, List, [], ◌∷◌, Some, Ok, Err, length, slice_get, slice_set, refl, sym, ap, subst, inl, inr, append-nil, length-append, arith}
use Rattle.std.specs.Prelude.{◌⊎◌, Result, Vec}
use Rattle.std.specs.declared.alloc.Global.{Global}
use Rattle.std.specs.FinMap.{len}
use Rattle.cs_value.specs.Catalog.{AreTables}
use Rattle.cs_value.specs.declared.catalog.TableDef.{TableDef}
use Rattle.cs_hub.specs.appending.Appended.{IsAppendedIn}
use Rattle.cs_hub.specs.Calls.{IsSameOrGrown, IsServedIn, ServesStore}
use Rattle.cs_hub.specs.Holding as hub
use Rattle.cs_hub.specs.Serves.{ServesIf}
use Rattle.cs_hub.specs.judgement.Judged.{hub_of}
use Rattle.cs_replica.specs.Leaves.{CallLeaves}
use Rattle.cs_replica.specs.Step.{Hears}
use Rattle.cs_replica.specs.Answered.{IsAnsweredNext}
use Rattle.cs_replica.specs.Holding as replica
use Rattle.cs_exchange.specs.declared.pulling.fault.AnswerFault.TheVariants as fault
use Rattle.cs_replica.specs.Edited.{with_pending}
use Rattle.cs_exchange.specs.declared.pulling.listing.Pulled.TheVariants as pulled
use Rattle.cs_replica.specs.declared.told.Told.TheVariants as what
use Rattle.cs_opening.specs.moving.Laws.{OneStoreOpening}
use Rattle.cs_opening.specs.moving.Moved.{IsStoreOpened}
use Rattle.cs_store.specs.declared.log.entry.LogEntry.{LogEntry}
use Rattle.cs_hub.specs.log_store.Laws.{OneLog}
use Rattle.cs_hub.specs.log_store.Shows.{ShowsLog}
use Rattle.cs_hub.specs.log_store.Versions.{ShowsBy, Versions}
use Rattle.cs_opening.specs.Laws.{NothingShowsNone}
use Rattle.cs_opening.specs.Opens.{IsReplicaAt}
use Rattle.cs_pending.specs.View.{View}
use Rattle.cs_pending.specs.position.Laws.{FitsPosition}
use Rattle.cs_pending.specs.position.Shows.{ShowsAt}
use Rattle.cs_pending.specs.declared.position.position.Position.{Position}
use Rattle.cs_exchange.specs.pushing.Pushes.{confirmed, grounded, pushed, request_of}
use Rattle.cs_exchange.specs.taking.Takes.{brought}
use Rattle.cs_store.specs.Contents.{Contents, log_count}
use Rattle.cs_store.specs.declared.names.MetaName.TheVariants.{Pending}
use Rattle.cs_store.specs.declared.store.RowStore.{Ghosts}
use Rattle.cs_wire.specs.Answers.{answer_spelling}
use Rattle.cs_wire.specs.Laws.{OneToldAnswer}
use Rattle.cs_wire.specs.Requests.{Asked, request_spelling}
use Rattle.cs_wire.specs.declared.answer.Answer.{Answer}
use Rattle.cs_wire.specs.declared.answer.Answer.TheVariants.{Entries, Merged, Short}
use Rattle.cs_wire.specs.declared.short_answer.ShortAnswer.TheVariants.{Accepted, Refused, Stale}
use Rattle.cs_conflict.specs.wish_list.Wished.{IsWished}
use Rattle.cs_world.specs.Laws.{AnswersFit, SoundHasHeadline, StepsAreSound}
use Rattle.cs_world.specs.Sound.{IsSound}
use Rattle.cs_world.specs.Steps as step
use Rattle.cs_world.specs.Steps.{Step}
use Rattle.cs_world.specs.World.{Asks, FitsSent, IsMember, IsMessage, Member, Orders, Replies, Sent, Tells, World, with_member}
use Rattle.cs_world.specs.declared.event.Event.{Event}
use Rattle.cs_world.specs.declared.event.Event.TheVariants.{Deliver, OnEdit}
use Rattle.cs_world.specs.declared.outcome.Outcome.{Outcome}
use Rattle.cs_world.specs.declared.outcome.Outcome.TheVariants as told
use Rattle.cs_world.specs.Holding.{AreHonest, Holding, Says, StandsAt}
use Rattle.cs_world.specs.Left as found
use Rattle.cs_world.specs.Left.{AtHub, AtReplica, IsServedBy, Kept, Leaves, LeavesHub, LeavesReplica, Place, ShowsKept, StopsHaveHeadline, Survives, WouldLeave, WouldServe, turned}
use Rattle.cs_world.specs.Moves.{HasGoneOn, KeepsLeft}
use Rattle.cs_world.specs.StopsLaws.{FoundIsStep, FoundIsStepOfHub, OpensAsLeft, StopOfHub, StopOfReplica}
use Rattle.cs_world.specs.declared.letter.Letter.{Letter}
use Rattle.cs_world.specs.declared.letter.Letter.TheVariants as letter
use Rattle.cs_world.proofs.Found.{both_there, set_at, set_same, set_there}

-- nothing is sent
quiet : (world : World) (r : ℕ) (after : Member) → with_member world r after ≡ turned (AtReplica r) world after []
quiet world r after = ap (λ (ss : List Sent). record world { members = slice_set world.members r after; messages = ss }) (sym (append-nil world.messages))

pub found_is_step : FoundIsStep
found_is_step limit r world before old left event was shown (found.edited {asked = asked} edited) =
    let e = edited before.view shown in
    let after : Member = record before { position = with_pending before.position (len left.pending); view = e.0 } in
    (after, [], told.Done, subst (λ (n : World). Step limit world (OnEdit r asked) told.Done n) (quiet world r after) (step.edits {left = left} (len left.pending) was e.1 e.2), e.2)
found_is_step limit r world before old left event was shown (found.pushed made) =
    let m = made before.view shown in
    let after : Member = record before { position = pushed before.position m.0; view = grounded before.view } in
    (after, Asks r (request_of (pushed before.position m.0) m.0) ∷ [], told.Sent (length world.messages), step.pushes {left = left} was m.1, m.1.shows)
found_is_step limit r world before old left event was shown (found.confirmed {k = k} {origin = origin} {number = number} {version = version} {wishes = wishes} there accepted made) =
    let shows = (made before.view shown).0 in
    let after : Member = record before { position = confirmed before.position; view = before.view } in
    let hears : Hears before (Short (Accepted origin number version)) wishes (Ok (what.Confirmed version)) after = record {
      left = left;
      unused = wishes;
      answers = (refl, inl (accepted, refl, refl), (shows, refl));
      shows = shows;
    } in
    (after, [], told.Heard (what.Confirmed version), subst (λ (n : World). Step limit world (Deliver k wishes) (told.Heard (what.Confirmed version)) n) (quiet world r after) (step.hears there was hears), shows)
found_is_step limit r world before old left event was shown (found.pulled {k = k} {first = first} {entries = entries} {wishes = wishes} there one) =
    let o = one before.view shown in
    let after : Member = record { tables = o.0; position = o.1; view = o.2 } in
    let hears : Hears before (Entries first entries) wishes (Err (fault.Device 1)) after = record {
      left = left;
      unused = o.3;
      answers = (Err (fault.Device 1), refl, (o.2, o.3, o.4, o.5, tt));
      shows = o.5;
    } in
    (after, [], told.NotHeard (fault.Device 1), subst (λ (n : World). Step limit world (Deliver k wishes) (told.NotHeard (fault.Device 1)) n) (quiet world r after) (step.hears there was hears), o.5)
found_is_step limit r world before old left event was shown (found.merged {k = k} {origin = origin} {first = first} {next = next} {changeset = changeset} {wishes = wishes} there mine above took) =
    let m = took.3 before.view shown in
    let at = mine.1 in
    let count : ℕ = next - before.position.version in
    let sum : before.position.version + count ≡ next = omega (arith, at, above) in
    let after : Member = record before { position = brought before.position next (len left.pending); view = m.0 } in
    let hears : Hears before (Merged origin first next changeset) wishes (Ok (what.Taken count)) after = record {
      left = left;
      unused = took.1;
      answers = (refl, inr (inr (inr (mine, above, Ok (pulled.Taken count), refl, (sum, took.0, m.0, took.2, refl, m.1, m.2)))));
      shows = m.1;
    } in
    (after, [], told.Heard (what.Taken count), subst (λ (n : World). Step limit world (Deliver k wishes) (told.Heard (what.Taken count)) n) (quiet world r after) (step.hears there was hears), m.1)

pub found_is_step_of_hub : AnswersFit → FoundIsStepOfHub
found_is_step_of_hub law limit world wishes old left would small sound shown =
    let served = would.served world.log shown in
    let fits = law limit world would.message would.asked served.0 served.1 small sound would.sent served.2 in
    let serves : ServesIf (Unit {0}) limit (hub_of world.tables world.log) (request_spelling would.asked) (answer_spelling fits.0) (hub_of world.tables served.1) =
    subst (λ (bytes : List ℕ). ServesIf (Unit {0}) limit (hub_of world.tables world.log) (request_spelling would.asked) bytes (hub_of world.tables served.1)) fits.2 served.2 in
    elim would.sent [
      | inl (who, mine) ↦ (served.1, Tells who fits.0 ∷ [], told.Sent (length world.messages), step.serves fits.0 mine fits.1 serves, served.3)
      | inr none ↦ (served.1, Replies fits.0 ∷ [], told.Sent (length world.messages), step.obeys fits.0 none fits.1 serves, served.3)
    ]

-- ---- behind a stop

-- nothing becomes another, and nothing is sent
same_replica : (world : World) (r : ℕ) (before : Member) → IsMember world r before → turned (AtReplica r) world before [] ≡ world
same_replica world r before was =
    ap (λ (ms : List Member). record world { members = ms; messages = world.messages ++ [] }) (set_same world.members r before was)
    ∙ ap (λ (ss : List Sent). record world { messages = ss }) (append-nil world.messages)

same_hub : (world : World) → turned AtHub world world.log [] ≡ world
same_hub world = ap (λ (ss : List Sent). record world { messages = ss }) (append-nil world.messages)

-- a step leads there
step_survives : StepsAreSound → SoundHasHeadline → (limit : ℕ) (world : World) (place : Place) (left : Contents) → limit < 2 ^ 32 → IsSound limit world
    → (kept : Kept place) (sent : List Sent) (event : Event) (outcome : Outcome) → Step limit world event outcome (turned place world kept sent) → ShowsKept world.tables place left kept
    → Survives limit world place left
step_survives sound headline limit world place left small is kept sent event outcome made shows =
    let so = (sound limit world (turned place world kept sent) event outcome small is made).0 in
    record {
      kept = kept;
      sent = sent;
      shows = shows;
      sound = so;
      headline = headline limit (turned place world kept sent) so;
      by = inr (event, outcome, made);
    }

-- or it is the world as it was
same_survives : SoundHasHeadline → (limit : ℕ) (world : World) (place : Place) (left : Contents) → IsSound limit world
    → (kept : Kept place) → turned place world kept [] ≡ world → ShowsKept world.tables place left kept
    → Survives limit world place left
same_survives headline limit world place left is kept same shows =
    let still : IsSound limit (turned place world kept []) = subst (λ (w : World). IsSound limit w) (sym same) is in
    record {
      kept = kept;
      sent = [];
      shows = shows;
      sound = still;
      headline = headline limit (turned place world kept []) still;
      by = inl same;
    }

pub stop_of_replica : StepsAreSound → SoundHasHeadline → StopOfReplica
stop_of_replica sound headline limit r world before old left small is was shown (inl same) =
    same_survives headline limit world (AtReplica r) left is before (same_replica world r before was) (subst (λ (c : Contents). ShowsAt before.tables c before.position before.view) (sym same) shown)
stop_of_replica sound headline limit r world before old left small is was shown (inr (event, would)) =
    let f = found_is_step limit r world before old left event was shown would in
    step_survives sound headline limit world (AtReplica r) left small is f.0 f.1 event f.2 f.3 f.4

pub stop_of_hub : AnswersFit → StepsAreSound → SoundHasHeadline → StopOfHub
stop_of_hub fit sound headline limit world old left small is shown (inl same) =
    same_survives headline limit world AtHub left is world.log (same_hub world) (subst (λ (c : Contents). ShowsLog world.tables c world.log) (sym same) shown)
stop_of_hub fit sound headline limit world old left small is shown (inr would) =
    let f = found_is_step_of_hub fit limit world [] old left would small is shown in
    step_survives sound headline limit world AtHub left small is f.0 f.1 (Deliver would.message []) f.2 f.3 f.4

-- ---- what would have been left goes on

-- what a failed commit would have left it would still have left when messages were added
would_leave_on : (w w2 : World) (r : ℕ) (tables : List TableDef) (position : Position) (old left : Contents) (event : Event) → HasGoneOn w w2 → WouldLeave w r tables position old left event → WouldLeave w2 r tables position old left event
would_leave_on w w2 r tables position old left event on (found.edited edited) = found.edited edited
would_leave_on w w2 r tables position old left event on (found.pushed made) = found.pushed made
would_leave_on w w2 r tables position old left event on (found.confirmed {k = k} {origin = origin} {number = number} {version = version} there accepted made) =
    found.confirmed (on.messages k (Tells r (Short (Accepted origin number version))) there) accepted made
would_leave_on w w2 r tables position old left event on (found.pulled {k = k} {first = first} {entries = entries} there one) =
    found.pulled (on.messages k (Tells r (Entries first entries)) there) one
would_leave_on w w2 r tables position old left event on (found.merged {k = k} {origin = origin} {first = first} {next = next} {changeset = changeset} there mine above took) =
    found.merged (on.messages k (Tells r (Merged origin first next changeset)) there) mine above took

would_serve_on : (w w2 : World) (limit : ℕ) (old left : Contents) → HasGoneOn w w2 → WouldServe limit w old left → WouldServe limit w2 old left
would_serve_on w w2 limit old left on would = record {
  message = would.message;
  asked = would.asked;
  sent = elim would.sent [
    | inl (who, mine) ↦ inl (who, on.messages would.message (Asks who would.asked) mine)
    | inr none ↦ inr (on.messages would.message (Orders would.asked) none)
  ];
  served = rw on.tables would.served;
}

-- what the commit of an answer would have left it is to be found by the message that told it
pub next_of_answer : (world : World) (k r : ℕ) (tables : List TableDef) (answer : Answer) (position : Position) (now left : Contents) → IsMessage world k (Tells r answer)
    → IsAnsweredNext IsWished tables answer position now left → (event : Event) × WouldLeave world r tables position now left event
next_of_answer world k r tables (Short (Accepted origin number version)) position now left there next = (Deliver k [], found.confirmed there next.0 next.1)
next_of_answer world k r tables (Short (Stale newest)) position now left there next = absurd next
next_of_answer world k r tables (Short (Refused code)) position now left there next = absurd next
next_of_answer world k r tables (Entries first entries) position now left there (p, one) = (Deliver k p, found.pulled there one)
next_of_answer world k r tables (Merged origin first next changeset) position now left there (mine, above, (p, took)) = (Deliver k p, found.merged there mine above took)

module _ {S : Type 0} (g : Ghosts S) (limit : ℕ) where
  replica_on : (world next : World) (r : ℕ) (tables : List TableDef) (position : Position) (store : S) → HasGoneOn world next → LeavesReplica g world r tables position store → LeavesReplica g next r tables position store
  replica_on world next r tables position store on leaves left may =
      elim (leaves left may) [ inl is ↦ inl is | inr (event, would) ↦ inr (event, would_leave_on world next r tables position (g.contents store) left event on would) ]

  hub_on : (world next : World) (store : S) → HasGoneOn world next → LeavesHub g limit world store → LeavesHub g limit next store
  hub_on world next store on leaves left may =
      elim (leaves left may) [ inl is ↦ inl is | inr would ↦ inr (would_serve_on world next limit (g.contents store) left on would) ]

  abbrev held : hub.Holding S → List (replica.Holding S) → List Letter → Holding S
  held h rs ls = record { hub = h; replicas = rs; letters = ls }

  module _ (h : hub.Holding S) (replicas : List (replica.Holding S)) (letters : List Letter) where
    -- no store was written
    pub left_as_it_was : (ls : List Letter) → KeepsLeft g limit (held h replicas letters) (held h replicas ls)
    left_as_it_was ls all world stands next on leaves = record {
      hub = hub_on world next h.store on leaves.hub;
      replicas = λ r one at. replica_on world next r one.catalog one.position one.store on (leaves.replicas r one at);
    }

    -- a replica's was
    pub left_of_replica : (r : ℕ) (old new : replica.Holding S) → slice_get replicas r ≡ Some old → (failed : Position → Contents → Contents → Type 0) → CallLeaves g failed old new
        → ((world : World) → StandsAt g limit (held h replicas letters) world → (position : Position) (now left : Contents) → failed position now left → (event : Event) × WouldLeave world r new.catalog position now left event)
        → (ls : List Letter) → KeepsLeft g limit (held h replicas letters) (held h (slice_set replicas r new) ls)
    left_of_replica r old new was failed call found_as ls all world stands next on leaves = record {
      hub = hub_on world next h.store on leaves.hub;
      replicas = λ s one at.
          elim (set_at replicas r new s one at) [
            | inl (is, same) ↦ subst (λ (i : ℕ). LeavesReplica g next i one.catalog one.position one.store) (sym is) (subst (λ (x : replica.Holding S). LeavesReplica g next r x.catalog x.position x.store) (sym same) here)
            | inr (other, before) ↦ replica_on world next s one.catalog one.position one.store on (leaves.replicas s one before)
          ];
    }
      where
        here : LeavesReplica g next r new.catalog new.position new.store
        here left may =
            let m = stands.0.members r old was in
            let placed = stands.1.placed r m.0 m.1 in
            elim (call (all.replicas r new (set_there replicas r new old was)) (subst AreTables (sym m.2.catalog) placed.are) (subst FitsPosition (sym m.2.position) placed.fits) m.0.view m.2.shows left may) [
              | inl now ↦ inl now
              | inr (inl (before, same, wide, stays)) ↦
                  elim (leaves.replicas r old was left before) [
                    | inl is ↦ inl (is ∙ sym same)
                    | inr (event, would) ↦ inr (event, would_leave_on world next r new.catalog new.position (g.contents new.store) left event on (rw (wide, stays, same) would))
                  ]
              | inr (inr made) ↦
                  let w = found_as world stands new.position (g.contents new.store) left made in
                  inr (w.0, would_leave_on world next r new.catalog new.position (g.contents new.store) left w.0 on w.1)
            ]

    -- the hub's was
    pub left_of_hub : (new : hub.Holding S) → ((world : World) → AreHonest g (held new replicas letters) → StandsAt g limit (held h replicas letters) world → (left : Contents) → g.may_leave new.store left
        → (left ≡ g.contents new.store) ⊎ ((g.may_leave h.store left × (g.contents new.store ≡ g.contents h.store)) ⊎ WouldServe limit world (g.contents new.store) left))
        → (ls : List Letter) → KeepsLeft g limit (held h replicas letters) (held new replicas ls)
    left_of_hub new served ls all world stands next on leaves = record {
      hub = λ left may.
          elim (served world (record { hub = all.hub; replicas = all.replicas }) stands left may) [
            | inl now ↦ inl now
            | inr (inl (before, same)) ↦
                elim (leaves.hub left before) [
                  | inl is ↦ inl (is ∙ sym same)
                  | inr would ↦ inr (would_serve_on world next limit (g.contents new.store) left on (rw same would))
                ]
            | inr (inr would) ↦ inr (would_serve_on world next limit (g.contents new.store) left on would)
          ];
      replicas = λ r one at. replica_on world next r one.catalog one.position one.store on (leaves.replicas r one at);
    }

-- ---- a request

-- what a stop leaves of the hub's store behind it, where that showed a log
abbrev pub HubLeaves : {S : Type 0} → Ghosts S → ℕ → List ℕ → hub.Holding S → hub.Holding S → Type 0
HubLeaves g limit request old new =
    g.honest new.store → (log : List LogEntry) → hub.Shows g.contents old log → (left : Contents) → g.may_leave new.store left
    → (left ≡ g.contents new.store)
    ⊎ ((g.may_leave old.store left × (g.contents new.store ≡ g.contents old.store)) ⊎ IsServedBy limit old.catalog request (g.contents new.store) left)

-- a log with an entry more is another
another : (versions : Versions) (entry : LogEntry) (old new : Contents) (log : List LogEntry) → ShowsBy versions old log → IsAppendedIn versions entry old new → new ≡ old → ⊥
another versions entry old new log shown appended same =
    let before = shown.0.entries.counted in
    let after = (appended log shown).1.entries.counted in
    let n = length-append log (entry ∷ []) in
    let both : log_count new ≡ log_count old = ap log_count same in
    omega (arith, before, after, n, both)

pub hub_leaves : {S E : Type 0} (g : Ghosts S) (limit : ℕ) (old new : hub.Holding S) (request : List ℕ) (result : Result (Vec ℕ Global) E) → OneLog → AreTables old.catalog
    → ServesStore g (hub.versions_of old) (hub.ShowsSome g.contents old) (IsServedIn limit (hub.versions_of old) request (g.contents old.store)) old.store new.store result
    → HubLeaves g limit request old new
hub_leaves g limit old new request result one are serves h log shown left may = of_what (serves.grown h)
  where
    -- whichever log it shows is the one
    by_any : IsServedIn limit (hub.versions_of old) request (g.contents old.store) left → IsServedBy limit old.catalog request (g.contents old.store) left
    by_any served other shows = served other (subst (ShowsBy (hub.versions_of old) (g.contents old.store)) (one old.catalog (g.contents old.store) log other are shown.0 shows) shown)

    of_what : IsSameOrGrown (hub.versions_of old) (g.contents old.store) (g.contents new.store)
        → (left ≡ g.contents new.store)
        ⊎ ((g.may_leave old.store left × (g.contents new.store ≡ g.contents old.store)) ⊎ IsServedBy limit old.catalog request (g.contents new.store) left)
    of_what (inl same) =
        elim (serves.crash h left may) [
          | inl before ↦ inr (inl (before, same))
          | inr (grown, served) ↦ inr (inr (subst (λ (c : Contents). IsServedBy limit old.catalog request c left) (sym same) (by_any (served (log, shown)))))
        ]
    of_what (inr (entry, appended)) =
        elim (serves.durable h (λ not. another (hub.versions_of old) entry (g.contents old.store) (g.contents new.store) log shown appended (serves.err h not)) left may) [
          | inl now ↦ inl now
          | inr before ↦ inr (inl before)
        ]

-- ---- whichever world it stands at

-- a letter says one thing
says_one : OneToldAnswer → (one : Letter) (message other : Sent) → Says one message → Says one other → FitsSent message → FitsSent other → message ≡ other
says_one law (letter.Asks r request) (Asks q asked) (Asks p its) says also fits fit =
    ap (λ (x : ℕ). Asks x asked) (sym says.0 ∙ also.0) ∙ ap (λ (a : Asked). Asks p a) (sym says.1 ∙ also.1)
says_one law (letter.Asks r request) (Asks q asked) (Tells p answer) says also fits fit = absurd also
says_one law (letter.Asks r request) (Asks q asked) (Orders its) says also fits fit = absurd also
says_one law (letter.Asks r request) (Asks q asked) (Replies answer) says also fits fit = absurd also
says_one law (letter.Asks r request) (Tells q answer) other says also fits fit = absurd says
says_one law (letter.Asks r request) (Orders asked) other says also fits fit = absurd says
says_one law (letter.Asks r request) (Replies answer) other says also fits fit = absurd says
says_one law (letter.Tells r bytes) (Asks q asked) other says also fits fit = absurd says
says_one law (letter.Tells r bytes) (Orders asked) other says also fits fit = absurd says
says_one law (letter.Tells r bytes) (Replies answer) other says also fits fit = absurd says
says_one law (letter.Tells r bytes) (Tells q answer) (Asks p asked) says also fits fit = absurd also
says_one law (letter.Tells r bytes) (Tells q answer) (Orders asked) says also fits fit = absurd also
says_one law (letter.Tells r bytes) (Tells q answer) (Replies its) says also fits fit = absurd also
says_one law (letter.Orders request) (Asks q asked) other says also fits fit = absurd says
says_one law (letter.Orders request) (Tells q answer) other says also fits fit = absurd says
says_one law (letter.Orders request) (Replies answer) other says also fits fit = absurd says
says_one law (letter.Orders request) (Orders asked) (Asks p its) says also fits fit = absurd also
says_one law (letter.Orders request) (Orders asked) (Tells p answer) says also fits fit = absurd also
says_one law (letter.Orders request) (Orders asked) (Replies answer) says also fits fit = absurd also
says_one law (letter.Orders request) (Orders asked) (Orders its) says also fits fit = ap (λ (a : Asked). Orders a) (sym says ∙ also)
says_one law (letter.Replies bytes) (Asks q asked) other says also fits fit = absurd says
says_one law (letter.Replies bytes) (Tells q answer) other says also fits fit = absurd says
says_one law (letter.Replies bytes) (Orders asked) other says also fits fit = absurd says
says_one law (letter.Replies bytes) (Replies answer) (Asks p asked) says also fits fit = absurd also
says_one law (letter.Replies bytes) (Replies answer) (Tells p its) says also fits fit = absurd also
says_one law (letter.Replies bytes) (Replies answer) (Orders asked) says also fits fit = absurd also
says_one law (letter.Replies bytes) (Replies answer) (Replies its) says also fits fit =
    let both : Ok answer ≡ Ok its = law bytes.items (Ok answer) (Ok its) (fits, says) (fit, also) in
    let same : answer ≡ its = cc in
    ap (λ (a : Answer). Replies a) same
says_one law (letter.Tells r bytes) (Tells q answer) (Tells p its) says also fits fit =
    let both : Ok answer ≡ Ok its = law bytes.items (Ok answer) (Ok its) (fits, says.1) (fit, also.1) in
    let same : answer ≡ its = cc in
    ap (λ (x : ℕ). Tells x answer) (sym says.0 ∙ also.0) ∙ ap (λ (a : Answer). Tells p a) same

module _ {S : Type 0} (g : Ghosts S) (limit : ℕ) (fit : AnswersFit) (steps : StepsAreSound) (headline : SoundHasHeadline) (one : OneToldAnswer) (small : limit < 2 ^ 32) (held : Holding S) where
  -- two worlds at which it stands were sent the same
  alike : (world other : World) → StandsAt g limit held world → StandsAt g limit held other → HasGoneOn world other
  alike world other stands also = record {
    tables = sym also.0.catalog ∙ stands.0.catalog;
    messages = λ k message at.
        let l = both_there held.letters world.messages k message stands.0.messages_count at in
        let m = stands.0.messages k l.0 l.1 in
        let o = also.0.messages k l.0 l.1 in
        let first : m.0 ≡ message = (let e = sym m.1 ∙ at in cc) in
        let same : m.0 ≡ o.0 = says_one one l.0 m.0 o.0 m.2 o.2 (stands.1.spelled k m.0 m.1) (also.1.spelled k o.0 o.1) in
        o.1 ∙ ap Some (sym same ∙ first);
  }

  pub stops_have_headline : (AreHonest g held → (standing : World) × StandsAt g limit held standing × Leaves g limit standing held) → StopsHaveHeadline g limit held
  stops_have_headline stood all world stands AtHub left may =
      let s = stood all in
      stop_of_hub fit steps headline limit world (g.contents held.hub.store) left small stands.1 (rw stands.0.catalog at stands.0.log.0)
      (hub_on g limit s.0 world held.hub.store (alike s.0 world s.1 stands) s.2.hub left may)
  stops_have_headline stood all world stands (AtReplica r) left (it, at, may) =
      let s = stood all in
      let m = stands.0.members r it at in
      let shown : ShowsAt m.0.tables (g.contents it.store) m.0.position m.0.view =
      subst (λ (t : List TableDef). ShowsAt t (g.contents it.store) m.0.position m.0.view) m.2.catalog (subst (λ (p : Position). ShowsAt it.catalog (g.contents it.store) p m.0.view) m.2.position m.2.shows) in
      stop_of_replica steps headline limit r world m.0 (g.contents it.store) left small stands.1 m.1 shown
      (subst (λ (p : Position). (left ≡ g.contents it.store) ⊎ ((event : Event) × WouldLeave world r m.0.tables p (g.contents it.store) left event)) m.2.position
      (subst (λ (ts : List TableDef). (left ≡ g.contents it.store) ⊎ ((event : Event) × WouldLeave world r ts it.position (g.contents it.store) left event)) m.2.catalog
      (replica_on g limit s.0 world r it.catalog it.position it.store (alike s.0 world s.1 stands) (s.2.replicas r it at) left may)))

-- ---- opened again

pub record Below : Type 0 where
  pub one : OneStoreOpening
  pub some : NothingShowsNone

module _ (laws : Below) (tables : List TableDef) (left : Contents) (position : Position) (view : View) (shown : ShowsAt tables left position view) where
  there : FitsPosition position → IsReplicaAt tables position.id left left position
  there fits = inr (laws.some tables position left (view, shown), refl, record { of = refl; fits = fits; shows = (view, shown) })

  stays : (now : Contents) (read : Position) → IsStoreOpened tables position.id left now read → now ≡ left
  stays now read (inl (inl (none, first, is))) = absurd (laws.some tables position left (view, shown) none)
  stays now read (inl (inr (some, same, stands))) = same
  stays now read (inr (changes, keeps, moved, stands)) = absurd (let no = sym (shown.values Pending) ∙ keeps.there in cc)

  pub opens : AreTables tables → FitsPosition position → (now : Contents) (read : Position) → IsStoreOpened tables position.id left now read → (now ≡ left) × (read ≡ position)
  opens are fits now read is = (stays now read is, laws.one tables position.id left now left read position are is (inl (there fits)))

pub opens_as_left : Below → OpensAsLeft
opens_as_left laws tables left now position read view are fits shown is = opens laws tables left position view shown are fits now read is
