-- In the same world an event has one outcome, and leaves the same world.
use Rattle.std.proofs.Common.{◌≡◌, ◌∙◌, ◌++◌, ℕ, zero, suc, List, [], ◌∷◌, Some, None, Result, Ok, Err, length, slice_get, refl, sym, ap, subst, inl, inr, arith, Option}
use Rattle.cs_conflict.specs.declared.wish.Wish.{Wish}
use Rattle.cs_hub.specs.Laws.{OneService}
use Rattle.cs_hub.specs.Serves.{Serves, ServesIf}
use Rattle.cs_hub.specs.judgement.Hub.{HubState}
use Rattle.cs_hub.specs.judgement.Judged.{hub_of}
use Rattle.cs_store.specs.declared.log.entry.LogEntry.{LogEntry}
use Rattle.cs_replica.specs.StepLaws.{IsOfEdit, IsOfPushed, OneEdited, OneHeard, OnePushed, OneResent}
use Rattle.cs_replica.specs.Same.{IsSameMember, IsShown}
use Rattle.cs_opening.specs.declared.fault.OpenFault.{OpenFault}
use Rattle.cs_pending.specs.declared.fault.EditFault.{EditFault}
use Rattle.cs_pending.specs.declared.position.position.Position.{Position}
use Rattle.cs_exchange.specs.declared.pulling.fault.AnswerFault.{AnswerFault}
use Rattle.cs_exchange.specs.declared.pulling.fault.AnswerFault.TheVariants as hearing
use Rattle.cs_exchange.specs.declared.pushing.fault.PushFault.{PushFault}
use Rattle.cs_replica.specs.Laws.{IsOfAnswer}
use Rattle.cs_replica.specs.declared.told.Told.{Told}
use Rattle.cs_value.specs.declared.catalog.TableDef.{TableDef}
use Rattle.cs_value.specs.declared.edit.Edit.{Edit}
use Rattle.cs_wire.specs.Answers.{FitsAnswer, answer_spelling}
use Rattle.cs_wire.specs.Laws.{OneToldAnswer}
use Rattle.cs_wire.specs.Requests.{Asked, AsksCatch, AsksPull, request_spelling}
use Rattle.cs_wire.specs.declared.answer.Answer.{Answer}
use Rattle.cs_wire.specs.declared.answer.Answer.TheVariants.{Short}
use Rattle.cs_wire.specs.declared.short_answer.ShortAnswer.TheVariants.{Refused}
use Rattle.cs_world.specs.Laws.{OneRun, OneStep, StepsAreSound}
use Rattle.cs_world.specs.Wider.{Wider}
use Rattle.cs_world.specs.Same.{IsRefused, IsSameWorld, device_code}
use Rattle.cs_world.specs.Sound.{IsSound}
use Rattle.cs_world.specs.Steps as step
use Rattle.cs_world.specs.Steps.{Step, Steps, addressee, heard}
use Rattle.cs_world.specs.World.{Asks, IsMember, IsMessage, Member, Orders, Replies, Sent, Tells, World, with_log, with_member, with_message}
use Rattle.cs_world.specs.declared.event.Event.{Event}
use Rattle.cs_world.specs.declared.event.Event.TheVariants.{AskCatch, AskPull, AskWiden, Deliver, MakePush, OnEdit, Resend, Restart}
use Rattle.cs_world.specs.declared.outcome.Outcome.{Outcome}
use Rattle.cs_world.specs.declared.outcome.Outcome.TheVariants as told
use Rattle.cs_world.proofs.Came.{Answered, AskedFrom, AskedOnceMore, Came, Comes, Edited, HeardOf, IsRead, Missed, OrderedOf, Pushed, Reread, ToldNobody, ask_outcome, asks_for, came, edit_outcome, has_replica, read_outcome, tells_to, with_asked}
use Rattle.cs_world.proofs.Found.{added, set_at, set_length, still}

same_Some : {X : Type 0} {a b : X} → Some a ≡ Some b → a ≡ b
same_Some e = cc

-- the laws below
pub record Below : Type 0 where
  pub service : OneService
  pub edited : OneEdited
  pub pushed : OnePushed
  pub resent : OneResent
  pub heard : OneHeard
  pub answer : OneToldAnswer

-- ---- what isn't refused says something

edit_tells : (result : Result (Unit {0}) EditFault) (new : World) → (IsRefused (edit_outcome result) new → ⊥) → IsOfEdit result
edit_tells (Ok done) new not = tt
edit_tells (Err fault) new not = not

push_tells : (number : ℕ) (result : Result Asked PushFault) (new : World) → (IsRefused (ask_outcome number result) new → ⊥) → IsOfPushed result
push_tells number (Ok asked) new not = tt
push_tells number (Err fault) new not = (λ is. not (inl is), λ is. not (inr is))

answer_tells : (result : Result Told AnswerFault) (new : World) → (IsRefused (heard result) new → ⊥) → IsOfAnswer result
answer_tells (Ok what) new not = tt
answer_tells (Err (hearing.Memory count)) new not = not (λ is. is)
answer_tells (Err (hearing.Device count)) new not = not (λ is. is)
answer_tells (Err (hearing.BadEntry count)) new not = tt

-- a store that is read again is read
read_tells : (result : Result (Unit {0}) OpenFault) (new : World) → IsRead result → (IsRefused (read_outcome result) new → ⊥) → read_outcome result ≡ told.Done
read_tells (Ok done) new is not = refl
read_tells (Err fault) new is not = absurd (not is)

not_as : (some other : Outcome) (new : World) → some ≡ other → (IsRefused some new → ⊥) → IsRefused other new → ⊥
not_as some other new is not refused = not (subst (λ (o : Outcome). IsRefused o new) (sym is) refused)

-- ---- worlds that are the same

none_there : {X : Type 0} (xs ys : List X) (k : ℕ) → length ys ≡ length xs → slice_get xs k ≡ None → slice_get ys k ≡ None
none_there [] [] k same none = refl
none_there [] (y ∷ ys) k same none = absurd (omega (arith, same))
none_there (x ∷ xs) [] k same none = absurd (omega (arith, same))
none_there (x ∷ xs) (y ∷ ys) zero same none = absurd cc
none_there (x ∷ xs) (y ∷ ys) (suc k) same none = none_there xs ys k (omega (arith, same)) none

pub same_as : (some other one last : World) → one ≡ some → last ≡ other → IsSameWorld some other → IsSameWorld one last
same_as some other one last is so same =
    subst (λ (w : World). IsSameWorld w last) (sym is) (subst (λ (w : World). IsSameWorld some w) (sym so) same)

sent_same : (world other : World) (message : Sent) → IsSameWorld world other → IsSameWorld (with_message world message) (with_message other message)
sent_same world other message same = record {
  tables = same.tables;
  log = same.log;
  messages = ap (λ (ms : List Sent). ms ++ message ∷ []) same.messages;
  count = same.count;
  members = same.members;
}

logged_same : (world other : World) (log : List LogEntry) → IsSameWorld world other → IsSameWorld (with_log world log) (with_log other log)
logged_same world other log same = record { tables = same.tables; log = refl; messages = same.messages; count = same.count; members = same.members }

turned_same : (world other : World) (r : ℕ) (member its : Member) → IsSameWorld world other → IsSameMember member its → IsSameWorld (with_member world r member) (with_member other r its)
turned_same world other r member its same alike = record {
  tables = same.tables;
  log = same.log;
  messages = same.messages;
  count = set_length other.members r its ∙ (same.count ∙ sym (set_length world.members r member));
  members = λ j one last at there. elim (set_at world.members r member j one at) [
    | inl here ↦ elim (set_at other.members r its j last there) [
      | inl so ↦
          subst (λ (m : Member). IsSameMember m last) (sym here.1) (subst (λ (m : Member). IsSameMember member m) (sym so.1) alike)
      | inr apart ↦ absurd (apart.0 here.0)
    ]
    | inr away ↦ elim (set_at other.members r its j last there) [
      | inl so ↦ absurd (away.0 so.0)
      | inr apart ↦ same.members j one last away.1 apart.1
    ]
  ];
}

-- ---- two that come of one event

module _ (laws : Below) (limit : ℕ) (old : World) (ms : List Member) where
  -- the same world, but for its replicas
  abbrev twin : World
  twin = record old { members = ms }

  module _ (s : IsSound limit old) (t : IsSound limit twin) (same : IsSameWorld old twin) where
    -- some store shows a replica
    shown_there : (world : World) → IsSound limit world → (r : ℕ) (member : Member) → IsMember world r member → IsShown member
    shown_there world sound r member was = let p = sound.placed r member was in record { contents = p.contents; shows = p.shown }

    -- ---- a replica's own steps

    edited_once : (r : ℕ) (asked : Edit) (some other : Outcome) (new last : World) → (IsRefused some new → ⊥) → (IsRefused other last → ⊥) → Edited limit old r asked some new → Edited limit twin r asked other last → (some ≡ other) × IsSameWorld new last
    edited_once r asked some other new last not never one two =
        let all =
        laws.edited asked one.result two.result one.before two.before one.after two.after (same.members r one.before two.before one.was two.was)
        (edit_tells one.result new (not_as some (edit_outcome one.result) new one.outcome_is not)) (edit_tells two.result last (not_as other (edit_outcome two.result) last two.outcome_is never)) one.goes two.goes in (
          one.outcome_is ∙ (ap edit_outcome all.0 ∙ sym two.outcome_is),
          same_as (with_member old r one.after) (with_member twin r two.after) new last one.new_is two.new_is (turned_same old twin r one.after two.after same all.1),
        )

    asked_same : (world other : World) (r : ℕ) (some one : Result Asked PushFault) → some ≡ one → IsSameWorld world other → IsSameWorld (with_asked world r some) (with_asked other r one)
    asked_same world other r some one is alike =
        subst (λ (x : Result Asked PushFault). IsSameWorld (with_asked world r some) (with_asked other r x)) is (asks some)
      where
        asks : (result : Result Asked PushFault) → IsSameWorld (with_asked world r result) (with_asked other r result)
        asks (Ok asked) = sent_same world other (Asks r asked) alike
        asks (Err fault) = alike

    pushed_once : (r : ℕ) (some other : Outcome) (new last : World) → (IsRefused some new → ⊥) → (IsRefused other last → ⊥) → Pushed limit old r some new → Pushed limit twin r other last → (some ≡ other) × IsSameWorld new last
    pushed_once r some other new last not never one two =
        let all =
        laws.pushed one.result two.result one.before two.before one.after two.after (s.placed r one.before one.was).are (same.members r one.before two.before one.was two.was)
        (push_tells (length old.messages) one.result new (not_as some (ask_outcome (length old.messages) one.result) new one.outcome_is not))
        (push_tells (length old.messages) two.result last (not_as other (ask_outcome (length old.messages) two.result) last two.outcome_is never)) one.goes two.goes in (
          one.outcome_is ∙ (ap (ask_outcome (length old.messages)) all.0 ∙ sym two.outcome_is),
          same_as (with_asked (with_member old r one.after) r one.result) (with_asked (with_member twin r two.after) r two.result) new last one.new_is two.new_is
              (asked_same (with_member old r one.after) (with_member twin r two.after) r one.result two.result all.0 (turned_same old twin r one.after two.after same all.1)),
        )

    asked_again_once : (r : ℕ) (some other : Outcome) (new last : World) → (IsRefused some new → ⊥) → (IsRefused other last → ⊥) → AskedOnceMore limit old r some new → AskedOnceMore limit twin r other last
        → (some ≡ other) × IsSameWorld new last
    asked_again_once r some other new last not never one two =
        let results : one.result ≡ two.result =
        laws.resent one.result two.result one.before two.before (shown_there old s r one.before one.was) (same.members r one.before two.before one.was two.was)
        (push_tells (length old.messages) one.result new (not_as some (ask_outcome (length old.messages) one.result) new one.outcome_is not))
        (push_tells (length old.messages) two.result last (not_as other (ask_outcome (length old.messages) two.result) last two.outcome_is never)) one.goes two.goes in (
          one.outcome_is ∙ (ap (ask_outcome (length old.messages)) results ∙ sym two.outcome_is),
          same_as (with_asked old r one.result) (with_asked twin r two.result) new last one.new_is two.new_is (asked_same old twin r one.result two.result results same),
        )

    asked_from_once : (r : ℕ) (asks : Position → Asked) (some other : Outcome) (new last : World) → AskedFrom limit old r asks some new → AskedFrom limit twin r asks other last → (some ≡ other) × IsSameWorld new last
    asked_from_once r asks some other new last one two =
        let alike = same.members r one.before two.before one.was two.was in
        let there : last ≡ with_message twin (Asks r (asks one.before.position)) = two.new_is ∙ ap (λ (p : Position). with_message twin (Asks r (asks p))) alike.position in (
          one.outcome_is ∙ sym two.outcome_is,
          same_as (with_message old (Asks r (asks one.before.position))) (with_message twin (Asks r (asks one.before.position))) new last one.new_is there
              (sent_same old twin (Asks r (asks one.before.position)) same),
        )

    read_once : (r : ℕ) (some other : Outcome) (new last : World) → (IsRefused some new → ⊥) → (IsRefused other last → ⊥) → Reread limit old r some new → Reread limit twin r other last → (some ≡ other) × IsSameWorld new last
    read_once r some other new last not never one two = (
      one.outcome_is
          ∙ (read_tells one.result new one.goes (not_as some (read_outcome one.result) new one.outcome_is not)
          ∙ (sym (read_tells two.result last two.goes (not_as other (read_outcome two.result) last two.outcome_is never)) ∙ sym two.outcome_is)),
      same_as old twin new last one.new_is two.new_is same,
    )

    -- ---- a message arrives

    missed_once : (k : ℕ) (some other : Outcome) (new last : World) → Missed limit old k some new → Missed limit twin k other last → (some ≡ other) × IsSameWorld new last
    missed_once k some other new last one two = (one.outcome_is ∙ sym two.outcome_is, same_as old twin new last one.new_is two.new_is same)

    never_missed : (k : ℕ) (message : Sent) → slice_get old.messages k ≡ None → IsMessage old k message → ⊥
    never_missed k message none there = let is : None ≡ Some message = sym none ∙ there in absurd cc

    asked_not_told : (to who : Option ℕ) (asked : Asked) (answer : Answer) → asks_for to asked ≡ tells_to who answer → ⊥
    asked_not_told None None asked answer is = cc
    asked_not_told None (Some q) asked answer is = cc
    asked_not_told (Some r) None asked answer is = cc
    asked_not_told (Some r) (Some q) asked answer is = cc

    never_both : (k : ℕ) (to who : Option ℕ) (asked : Asked) (answer : Answer) → IsMessage old k (asks_for to asked) → IsMessage old k (tells_to who answer) → ⊥
    never_both k to who asked answer there here =
        let is : Some (asks_for to asked) ≡ Some (tells_to who answer) = sym there ∙ here in
        asked_not_told to who asked answer (same_Some is)

    never_two : (k r : ℕ) (answer other : Answer) → IsMessage old k (Replies answer) → IsMessage old k (Tells r other) → ⊥
    never_two k r answer other there here = let is : Some (Replies answer) ≡ Some (Tells r other) = sym there ∙ here in absurd cc

    one_answer : (some other : Answer) → FitsAnswer some → FitsAnswer other → answer_spelling some ≡ answer_spelling other → some ≡ other
    one_answer some other fits its_fits alike =
        let both : Ok some ≡ Ok other = laws.answer (answer_spelling some) (Ok some) (Ok other) (fits, refl) (its_fits, alike) in
        cc

    -- the hub answers by its log, where its answer doesn't tell that its device failed
    by_log : (to : Option ℕ) (asked : Asked) (answer : Answer) (log : List LogEntry) (world : World) → FitsAnswer answer → (IsRefused (told.Sent (length world.messages)) (with_message (with_log world log) (tells_to to answer)) → ⊥)
        → ServesIf (Unit {0}) limit (hub_of old.tables old.log) (request_spelling asked) (answer_spelling answer) (hub_of old.tables log)
        → Serves limit (hub_of old.tables old.log) (request_spelling asked) (answer_spelling answer) (hub_of old.tables log)
    by_log to asked answer log world fits not (inl serves) = serves
    by_log (Some r) asked answer log world fits not (inr (failed, is, stays)) =
        let told_so : answer ≡ Short (Refused device_code) = one_answer answer (Short (Refused device_code)) fits (omega arith) is in
        absurd (not (inl (r, subst (λ (a : Answer). slice_get (world.messages ++ Tells r answer ∷ []) (length world.messages) ≡ Some (Tells r a)) told_so (added world.messages (Tells r answer)))))
    by_log None asked answer log world fits not (inr (failed, is, stays)) =
        let told_so : answer ≡ Short (Refused device_code) = one_answer answer (Short (Refused device_code)) fits (omega arith) is in
        absurd (not (inr (subst (λ (a : Answer). slice_get (world.messages ++ Replies answer ∷ []) (length world.messages) ≡ Some (Replies a)) told_so (added world.messages (Replies answer)))))

    one_asked : (to who : Option ℕ) (asked other : Asked) → asks_for to asked ≡ asks_for who other → (to ≡ who) × (asked ≡ other)
    one_asked None None asked other is = (refl, cc)
    one_asked None (Some q) asked other is = absurd (cc)
    one_asked (Some r) None asked other is = absurd (cc)
    one_asked (Some r) (Some q) asked other is = let same : r ≡ q = cc in (ap (λ (n : ℕ). Some n) same, cc)

    answered_alike : (k : ℕ) (some other : Outcome) (new last : World) → (IsRefused some new → ⊥) → (IsRefused other last → ⊥) → (one : Answered limit old k some new) (two : Answered limit twin k other last)
        → two.to ≡ one.to → two.asked ≡ one.asked → (some ≡ other) × IsSameWorld new last
    answered_alike k some other new last not never one two to what =
        let after_one = with_message (with_log old one.log) (tells_to one.to one.answer) in
        let after_two = with_message (with_log twin two.log) (tells_to two.to two.answer) in
        let first =
        by_log one.to one.asked one.answer one.log old one.fits
        (λ refused. not (subst (λ (w : World). IsRefused some w) (sym one.new_is) (subst (λ (o : Outcome). IsRefused o after_one) (sym one.outcome_is) refused))) one.goes in
        let second =
        by_log two.to two.asked two.answer two.log twin two.fits
        (λ refused. never (subst (λ (w : World). IsRefused other w) (sym two.new_is) (subst (λ (o : Outcome). IsRefused o after_two) (sym two.outcome_is) refused))) two.goes in
        let second_of = subst (λ (a : Asked). Serves limit (hub_of old.tables old.log) (request_spelling a) (answer_spelling two.answer) (hub_of old.tables two.log)) what second in
        let both =
        laws.service limit (hub_of old.tables old.log) (hub_of old.tables one.log) (hub_of old.tables two.log) (request_spelling one.asked) (answer_spelling one.answer) (answer_spelling two.answer) (record { tables = s.tables; log = s.log }) first second_of in
        let answers : one.answer ≡ two.answer = one_answer one.answer two.answer one.fits two.fits both.0 in
        let logs : one.log ≡ two.log = ap (λ (h : HubState). h.log) both.1 in
        let there : last ≡ with_message (with_log twin one.log) (tells_to one.to one.answer) =
        two.new_is
        ∙ (ap (λ (l : List LogEntry). with_message (with_log twin l) (tells_to two.to two.answer)) (sym logs)
        ∙ (ap (λ (a : Answer). with_message (with_log twin one.log) (tells_to two.to a)) (sym answers)
        ∙ ap (λ (q : Option ℕ). with_message (with_log twin one.log) (tells_to q one.answer)) to)) in (
          one.outcome_is ∙ sym two.outcome_is,
          same_as after_one (with_message (with_log twin one.log) (tells_to one.to one.answer)) new last one.new_is there
              (sent_same (with_log old one.log) (with_log twin one.log) (tells_to one.to one.answer) (logged_same old twin one.log same)),
        )

    answered_once : (k : ℕ) (some other : Outcome) (new last : World) → (IsRefused some new → ⊥) → (IsRefused other last → ⊥) → Answered limit old k some new → Answered limit twin k other last → (some ≡ other) × IsSameWorld new last
    answered_once k some other new last not never one two =
        let is : Some (asks_for two.to two.asked) ≡ Some (asks_for one.to one.asked) = sym two.there ∙ one.there in
        let both = one_asked two.to one.to two.asked one.asked (same_Some is) in
        answered_alike k some other new last not never one two both.0 both.1

    ignored_once : (k : ℕ) (some other : Outcome) (new last : World) → ToldNobody limit old k some new → ToldNobody limit twin k other last → (some ≡ other) × IsSameWorld new last
    ignored_once k some other new last one two = (one.outcome_is ∙ sym two.outcome_is, same_as old twin new last one.new_is two.new_is same)

    ordered_once : (wider : Wider) (some other : Outcome) (new last : World) → OrderedOf limit old wider some new → OrderedOf limit twin wider other last → (some ≡ other) × IsSameWorld new last
    ordered_once wider some other new last one two =
        let message = Orders (step.asked_of_wider wider) in
        (one.outcome_is ∙ sym two.outcome_is, same_as (with_message old message) (with_message twin message) new last one.new_is two.new_is (sent_same old twin message same))

    heard_alike : (k : ℕ) (wishes : List Wish) (some other : Outcome) (new last : World) → (IsRefused some new → ⊥) → (IsRefused other last → ⊥) → (one : HeardOf limit old k wishes some new) (two : HeardOf limit twin k wishes other last)
        → two.r ≡ one.r → two.answer ≡ one.answer → (some ≡ other) × IsSameWorld new last
    heard_alike k wishes some other new last not never one two to what =
        let was = subst (λ (q : ℕ). IsMember twin q two.before) to two.was in
        let goes = subst (λ (a : Answer). step.Hears two.before a wishes two.result two.after) what two.goes in
        let all =
        laws.heard one.answer wishes one.result two.result one.before two.before one.after two.after (s.placed one.r one.before one.was).are
        (shown_there old s one.r one.before one.was) (shown_there twin t one.r two.before was) (same.members one.r one.before two.before one.was was)
        (answer_tells one.result new (not_as some (heard one.result) new one.outcome_is not)) (answer_tells two.result last (not_as other (heard two.result) last two.outcome_is never)) one.goes goes in
        let there : last ≡ with_member twin one.r two.after = two.new_is ∙ ap (λ (q : ℕ). with_member twin q two.after) to in (
          one.outcome_is ∙ (ap heard all.0 ∙ sym two.outcome_is),
          same_as (with_member old one.r one.after) (with_member twin one.r two.after) new last one.new_is there (turned_same old twin one.r one.after two.after same all.1),
        )

    heard_once : (k : ℕ) (wishes : List Wish) (some other : Outcome) (new last : World) → (IsRefused some new → ⊥) → (IsRefused other last → ⊥) → HeardOf limit old k wishes some new → HeardOf limit twin k wishes other last
        → (some ≡ other) × IsSameWorld new last
    heard_once k wishes some other new last not never one two =
        let is : Some (Tells two.r two.answer) ≡ Some (Tells one.r one.answer) = sym two.there ∙ one.there in
        let to : two.r ≡ one.r = cc in
        let what : two.answer ≡ one.answer = cc in
        heard_alike k wishes some other new last not never one two to what

    -- ---- each event

    came_once : (event : Event) (some other : Outcome) (new last : World) → (IsRefused some new → ⊥) → (IsRefused other last → ⊥) → Came limit old event some new → Came limit twin event other last → (some ≡ other) × IsSameWorld new last
    came_once (OnEdit r asked) some other new last not never one two = edited_once r asked some other new last not never one two
    came_once (MakePush r) some other new last not never one two = pushed_once r some other new last not never one two
    came_once (Resend r) some other new last not never one two = asked_again_once r some other new last not never one two
    came_once (AskPull r count) some other new last not never one two = asked_from_once r (λ position. AsksPull position.version count) some other new last one two
    came_once (AskCatch r count) some other new last not never one two =
        asked_from_once r (λ position. AsksCatch position.id position.version count) some other new last one two
    came_once (Restart r) some other new last not never one two = read_once r some other new last not never one two
    came_once (AskWiden wider) some other new last not never one two = ordered_once wider some other new last one two
    came_once (Deliver k wishes) some other new last not never (inl one) (inl two) = missed_once k some other new last one two
    came_once (Deliver k wishes) some other new last not never (inl one) (inr (inl two)) = absurd (never_missed k (asks_for two.to two.asked) one.none two.there)
    came_once (Deliver k wishes) some other new last not never (inl one) (inr (inr (inl two))) = absurd (never_missed k (Replies two.answer) one.none two.there)
    came_once (Deliver k wishes) some other new last not never (inl one) (inr (inr (inr two))) = absurd (never_missed k (Tells two.r two.answer) one.none two.there)
    came_once (Deliver k wishes) some other new last not never (inr (inl one)) (inl two) = absurd (never_missed k (asks_for one.to one.asked) two.none one.there)
    came_once (Deliver k wishes) some other new last not never (inr (inl one)) (inr (inl two)) = answered_once k some other new last not never one two
    came_once (Deliver k wishes) some other new last not never (inr (inl one)) (inr (inr (inl two))) = absurd (never_both k one.to None one.asked two.answer one.there two.there)
    came_once (Deliver k wishes) some other new last not never (inr (inl one)) (inr (inr (inr two))) = absurd (never_both k one.to (Some two.r) one.asked two.answer one.there two.there)
    came_once (Deliver k wishes) some other new last not never (inr (inr (inl one))) (inl two) = absurd (never_missed k (Replies one.answer) two.none one.there)
    came_once (Deliver k wishes) some other new last not never (inr (inr (inl one))) (inr (inl two)) = absurd (never_both k two.to None two.asked one.answer two.there one.there)
    came_once (Deliver k wishes) some other new last not never (inr (inr (inl one))) (inr (inr (inl two))) = ignored_once k some other new last one two
    came_once (Deliver k wishes) some other new last not never (inr (inr (inl one))) (inr (inr (inr two))) = absurd (never_two k two.r one.answer two.answer one.there two.there)
    came_once (Deliver k wishes) some other new last not never (inr (inr (inr one))) (inl two) = absurd (never_missed k (Tells one.r one.answer) two.none one.there)
    came_once (Deliver k wishes) some other new last not never (inr (inr (inr one))) (inr (inl two)) = absurd (never_both k two.to (Some one.r) two.asked one.answer two.there one.there)
    came_once (Deliver k wishes) some other new last not never (inr (inr (inr one))) (inr (inr (inl two))) = absurd (never_two k one.r two.answer one.answer two.there one.there)
    came_once (Deliver k wishes) some other new last not never (inr (inr (inr one))) (inr (inr (inr two))) = heard_once k wishes some other new last not never one two

    -- whom it is for doesn't change with the replicas
    to_same : (event : Event) → addressee twin event ≡ addressee old event
    to_same (OnEdit r asked) = refl
    to_same (MakePush r) = refl
    to_same (Resend r) = refl
    to_same (AskPull r count) = refl
    to_same (AskCatch r count) = refl
    to_same (Deliver k wishes) = refl
    to_same (Restart r) = refl
    to_same (AskWiden wider) = refl

    comes_once : (event : Event) (some other : Outcome) (new last : World) → (IsRefused some new → ⊥) → (IsRefused other last → ⊥) → Comes limit old event some new → Comes limit twin event other last → (some ≡ other) × IsSameWorld new last
    comes_once event some other new last not never (inl (memory, stays)) two = absurd (not_as some told.Memory new memory not tt)
    comes_once event some other new last not never (inr one) (inl (memory, stays)) = absurd (not_as other told.Memory last memory never tt)
    comes_once event some other new last not never (inr (inl one)) (inr (inl two)) = (one.outcome_is ∙ sym two.outcome_is, same_as old twin new last one.new_is two.new_is same)
    comes_once event some other new last not never (inr (inl one)) (inr (inr two)) =
        absurd (has_replica limit twin event other last one.r two (to_same event ∙ one.to) (none_there old.members ms one.r same.count one.none))
    comes_once event some other new last not never (inr (inr one)) (inr (inl two)) =
        absurd (has_replica limit old event some new two.r one (sym (to_same event) ∙ two.to) (none_there ms old.members two.r (sym same.count) two.none))
    comes_once event some other new last not never (inr (inr one)) (inr (inr two)) = came_once event some other new last not never one two

-- the same world is the one, but for its replicas
its_is : (old its : World) → IsSameWorld old its → its ≡ record old { members = its.members }
its_is old its same =
    ap (λ (ts : List TableDef). record its { tables = ts }) same.tables
    ∙ (ap (λ (l : List LogEntry). record its { tables = old.tables; log = l }) same.log
    ∙ ap (λ (ms : List Sent). record its { tables = old.tables; log = old.log; messages = ms }) same.messages)

pub one_step : Below → OneStep
one_step laws limit old its new last event some other s t same not never one two =
    let is = its_is old its same in
    comes_once laws limit old its.members s (subst (IsSound limit) is t) (subst (IsSameWorld old) is same) event some other new last not never
    (came limit old one) (came limit (record old { members = its.members }) (subst (λ (w : World). Step limit w event other last) is two))

-- ---- events one after another

-- a message stays
step_keeps : (limit : ℕ) (old new : World) (event : Event) (outcome : Outcome) (k : ℕ) (message : Sent) → Step limit old event outcome new → IsMessage old k message → IsMessage new k message
step_keeps limit old new event outcome k message one there = keeps one there
  where
    keeps : {event : Event} {outcome : Outcome} {new : World} → Step limit old event outcome new → IsMessage old k message → IsMessage new k message
    keeps (step.edits count was made shows) there = there
    keeps (step.edits_not was why) there = there
    keeps (step.pushes {r = r} {before = before} {changes = changes} was made) there = still old.messages _ message k there
    keeps (step.pushes_not was why) there = there
    keeps (step.resends was flight) there = still old.messages _ message k there
    keeps (step.resends_not was why) there = there
    keeps (step.asks few was) there = still old.messages _ message k there
    keeps (step.catches few was) there = still old.messages _ message k there
    keeps (step.restarts was) there = there
    keeps (step.restarts_not was why) there = there
    keeps (step.serves answer at fits serves) there = still old.messages _ message k there
    keeps (step.obeys answer at fits serves) there = still old.messages _ message k there
    keeps (step.orders fits) there = still old.messages _ message k there
    keeps (step.ignores at) there = there
    keeps (step.hears at was hears) there = there
    keeps (step.no_replica to none) there = there
    keeps (step.no_message none) there = there
    keeps step.no_memory there = there

steps_keep : (limit : ℕ) (old new : World) (events : List Event) (outcomes : List Outcome) (k : ℕ) (message : Sent) → Steps limit old events outcomes new → IsMessage old k message → IsMessage new k message
steps_keep limit old new [] [] k message is there = subst (λ (w : World). IsMessage w k message) (sym is) there
steps_keep limit old new (event ∷ events) (outcome ∷ outcomes) k message (between, one, more) there =
    steps_keep limit between new events outcomes k message more (step_keeps limit old between event outcome k message one there)
steps_keep limit old new [] (outcome ∷ outcomes) k message none there = absurd none
steps_keep limit old new (event ∷ events) [] k message none there = absurd none

-- what is refused after one of the events is refused after all
refused_on : (limit : ℕ) (old new : World) (events : List Event) (outcomes : List Outcome) (outcome : Outcome) → Steps limit old events outcomes new → IsRefused outcome old → IsRefused outcome new
refused_on limit old new events outcomes told.Done steps refused = refused
refused_on limit old new events outcomes (told.Sent number) steps (inl (r, there)) = inl (r, steps_keep limit old new events outcomes number (Tells r (Short (Refused device_code))) steps there)
refused_on limit old new events outcomes (told.Sent number) steps (inr there) = inr (steps_keep limit old new events outcomes number (Replies (Short (Refused device_code))) steps there)
refused_on limit old new events outcomes (told.Heard what) steps refused = refused
refused_on limit old new events outcomes told.NoReplica steps refused = refused
refused_on limit old new events outcomes told.NoMessage steps refused = refused
refused_on limit old new events outcomes (told.NotEdited fault) steps refused = refused
refused_on limit old new events outcomes (told.NotPushed fault) steps refused = refused
refused_on limit old new events outcomes (told.NotHeard fault) steps refused = refused
refused_on limit old new events outcomes (told.NotReloaded fault) steps refused = refused
refused_on limit old new events outcomes told.Memory steps refused = refused

pub one_run : OneStep → StepsAreSound → OneRun
one_run law keeps limit old its new last [] [] [] small s t same not never is so = (refl, same_as old its new last is so same)
one_run law keeps limit old its new last (event ∷ events) (some ∷ more) (other ∷ others) small s t same (not, nots) (never, nos) (between, one, rest) (among, two, later) =
    let first =
    law limit old its between among event some other s t same
    (λ refused. not (refused_on limit between new events more some rest refused)) (λ refused. never (refused_on limit among last events others other later refused)) one two in
    let all =
    one_run law keeps limit between among new last events more others small (keeps limit old between event some small s one).0 (keeps limit its among event other small t two).0 first.1 nots nos rest later in
    (ap (λ (o : Outcome). o ∷ more) first.0 ∙ ap (λ (os : List Outcome). other ∷ os) all.0, all.1)
one_run law keeps limit old its new last [] (some ∷ more) others small s t same not never is so = absurd is
one_run law keeps limit old its new last [] [] (other ∷ others) small s t same not never is so = absurd so
one_run law keeps limit old its new last (event ∷ events) [] others small s t same not never is so = absurd is
one_run law keeps limit old its new last (event ∷ events) (some ∷ more) [] small s t same not never is so = absurd so
