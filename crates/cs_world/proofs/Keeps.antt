-- Each event keeps a world sound, and hands no replica a bad entry.
use Rattle.std.proofs.Common.{◌≡◌, ◌≤◌, ◌<◌, ◌+◌, ◌^◌, ◌∙◌, ℕ, List, [], ◌∷◌, Result, Ok, length, refl, sym, ap, subst, inl, inr, arith}
use Rattle.cs_value.specs.declared.edit.Edit.{Edit}
use Rattle.cs_conflict.specs.declared.wish.Wish.{Wish}
use Rattle.cs_store.specs.log.Laws.{CatalogsAreTables, LongerLog}
use Rattle.cs_store.specs.log.Log.{tables_at}
use Rattle.cs_store.specs.declared.log.body.Body.{Body}
use Rattle.cs_store.specs.declared.log.body.Body.TheVariants.{Changes, Widen}
use Rattle.cs_value.specs.Catalog.{AreTables}
use Rattle.cs_value.specs.declared.catalog.TableDef.{TableDef}
use Rattle.cs_store.specs.declared.log.entry.LogEntry.{LogEntry}
use Rattle.cs_store.specs.declared.log.entry.TheConstants.{MAX_CHANGESET}
use Rattle.cs_normal.specs.Normal.{normal_spelling}
use Rattle.cs_normal.specs.State.{IsDefinedOn}
use Rattle.cs_normal.specs.declared.normal.TableChanges.{TableChanges}
use Rattle.cs_pending.specs.Edits.{edit}
use Rattle.cs_pending.specs.View.{View}
use Rattle.cs_pending.specs.position.Shows.{ShowsAt}
use Rattle.cs_pending.specs.declared.position.position.TheConstants.{LAST_NUMBER}
use Rattle.cs_exchange.specs.declared.pulling.fault.AnswerFault.{AnswerFault}
use Rattle.cs_exchange.specs.pushing.Pushes.{IsPushMade, grounded, pushed, request_of}
use Rattle.cs_replica.specs.Edited.{with_pending}
use Rattle.cs_replica.specs.Stands.{StandsOn}
use Rattle.cs_hub.specs.catching.Laws.{OthersAsLogGrows}
use Rattle.cs_replica.specs.Laws.{EditStands, FlightFits, KeptStands, StandsLonger}
use Rattle.cs_replica.specs.declared.told.Told.{Told}
use Rattle.cs_store.specs.Contents.{Contents}
use Rattle.cs_wire.specs.Answers.{FitsAnswer, answer_spelling}
use Rattle.cs_wire.specs.Requests.{Asked, AsksCatch, AsksPull, AsksPush}
use Rattle.cs_wire.specs.declared.answer.Answer.{Answer}
use Rattle.cs_wire.specs.declared.push_head.PushHead.{PushHead}
use Rattle.cs_world.specs.Headline.{IsGood}
use Rattle.cs_world.specs.Laws.{AnswersFit, StepsAreSound}
use Rattle.cs_store.specs.log.Stored.{AreChangesOf}
use Rattle.cs_world.specs.Sound.{IsPlaced, IsSound, IsTrue, IsTrueAnswer, IsTrueAsked, IsTrueOrder, IsTruePush, WasAsked, WasOffered, WasOrdered}
use Rattle.cs_world.specs.Steps as step
use Rattle.cs_world.specs.Steps.{Step, Hears}
use Rattle.cs_world.specs.World.{Asks, FitsSent, IsMember, IsMessage, Member, Orders, Replies, Sent, Tells, World, with_log, with_member, with_message}
use Rattle.cs_world.specs.declared.event.Event.{Event}
use Rattle.cs_world.specs.declared.outcome.Outcome.{Outcome}
use Rattle.cs_world.proofs.Found.{added, in_append, in_one, some_is}
use Rattle.cs_world.proofs.Goes.{AreOne, AskedIn, Goes, again_sound, asked_one, moved, moved_at, moved_sound, next_sound, no_push, offered_on, placed_on, quiet_sound, said_sound}
use Rattle.cs_world.proofs.Heard as answers
use Rattle.cs_world.proofs.Served as service

pub record Below : Type 0 where
  pub longer : LongerLog
  pub catalogs : CatalogsAreTables
  pub stands : StandsLonger
  pub others : OthersAsLogGrows
  pub edit : EditStands
  pub kept : KeptStands
  pub flight : FlightFits
  pub most : MAX_CHANGESET ≡ 4294967295
  pub last : LAST_NUMBER ≡ 9223372036854775807
  pub service : service.Below
  pub answers : answers.Below

module _ (laws : Below) (limit : ℕ) (small : limit < 2 ^ 32) (w : World) (s : IsSound limit w) where
  -- ---- an edit

  edited : (r count : ℕ) (asked : Edit) (before : Member) (next : View) (left : Contents) → IsMember w r before
      → edit before.tables (step.table_of_edit asked) (step.asked_of_edit asked) before.view ≡ Ok next
      → ShowsAt before.tables left (with_pending before.position count) next
      → IsSound limit (with_member w r (record before { position = with_pending before.position count; view = next }))
  edited r count asked before next left was made shows =
      let p = s.placed r before was in
      quiet_sound laws.longer laws.stands laws.others limit w r before (record before { position = with_pending before.position count; view = next }) s was (omega arith) (record {
        id = p.id;
        small = p.small;
        fits = record { id = p.fits.id; version = p.fits.version };
        tables = p.tables;
        are = p.are;
        contents = left;
        shown = shows;
        stands = laws.edit before.tables w.log (step.table_of_edit asked) (step.asked_of_edit asked) p.contents left before.position count before.view next p.are p.shown made shows p.stands;
        sent = λ changes flight. p.sent changes flight;
      })

  -- ---- a push is made

  module _ (r : ℕ) (before : Member) (left : Contents) (changes : List TableChanges) (was : IsMember w r before) (made : IsPushMade before.tables before.position before.view left changes) where
    abbrev after : Member
    after = record before { position = pushed before.position changes; view = grounded before.view }

    abbrev head : PushHead
    head = record { origin = before.position.id; number = before.position.number + 1; base = before.position.version }

    abbrev message : Sent
    message = Asks r (AsksPush head (normal_spelling changes))

    abbrev next : World
    next = moved laws.longer laws.stands laws.others w r after (message ∷ [])

    p : IsPlaced w r before
    p = s.placed r before was

    counts : before.position.number ≤ after.position.number
    counts = omega arith

    after_stands : StandsOn w.log after.position after.view
    after_stands = laws.kept w.log before.position after.position before.view after.view refl made.log_rows p.stands

    sent_now : WasAsked next (AsksPush head (normal_spelling changes))
    sent_now = (length w.messages, r, added w.messages message)

    after_placed : IsPlaced next r after
    after_placed = record {
      id = p.id;
      small = p.small;
      fits = record { id = p.fits.id; version = p.fits.version };
      tables = p.tables;
      are = p.are;
      contents = left;
      shown = made.shows;
      stands = after_stands;
      sent = λ cs flight. let same : cs ≡ changes = cc in subst (λ (c : List TableChanges). WasAsked next (AsksPush head (normal_spelling c))) (sym same) sent_now;
    }

    fits_message : FitsSent message
    fits_message = record {
      origin_fits = p.fits.id;
      number_fits = omega (arith, made.number, laws.last);
      base_fits = p.fits.version;
      size_fits = omega (arith, made.shows.under_way.size, laws.most);
    }

    defined : IsDefinedOn before.tables changes (tables_at w.log before.position.version)
    defined =
        let applied = laws.flight before.tables left w.log after.position changes after.view p.are made.shows refl after_stands in
        (applied.0, λ n k. some_is (applied.1 n k))

    true_message : IsTrue next message
    true_message = record {
      changes = changes;
      spelled = refl;
      of_tables = subst (λ (ts : List TableDef). AreChangesOf ts changes) p.tables (made.shows.under_way.normal, made.shows.under_way.fits);
      size = made.shows.under_way.size;
      within = p.stands.within;
      defined = subst (λ (ts : List TableDef). IsDefinedOn ts changes (tables_at w.log before.position.version)) p.tables defined;
      counted = λ m at.
          elim (moved_at laws.longer laws.stands laws.others limit w r before after (message ∷ []) s was counts before.position.id m at) [
            | inl q ↦ subst (λ (x : Member). before.position.number + 1 ≤ x.position.number) (sym q.1) (omega arith)
            | inr q ↦ absurd (q.0 p.id)
          ];
    }

    one_push : (mine other : PushHead) (changeset its : List ℕ) → AskedIn (message ∷ []) (AsksPush mine changeset) → WasAsked next (AsksPush other its) → mine.origin ≡ other.origin → mine.number ≡ other.number → AreOne mine other changeset its
    one_push mine other changeset its one two origins numbers =
        let is = (asked_one message (AsksPush mine changeset) one).1 in
        let mine_is : mine ≡ head = cc in
        let changeset_is : changeset ≡ normal_spelling changes = cc in
        elim (in_append w.messages (message ∷ []) (Asks two.1 (AsksPush other its)) two.0 two.2) [
          | inl old ↦
              let t : IsTruePush w other its = s.true two.0 (Asks two.1 (AsksPush other its)) old in
              let by : other.origin ≡ r = sym origins ∙ (ap (λ (h : PushHead). h.origin) mine_is ∙ p.id) in
              let few = t.counted before (subst (λ (i : ℕ). IsMember w i before) (sym by) was) in
              let number : mine.number ≡ before.position.number + 1 = ap (λ (h : PushHead). h.number) mine_is in
              absurd (omega (arith, few, number, numbers))
          | inr new ↦
              let same = (in_one (Asks two.1 (AsksPush other its)) message new.0 new.2).1 in
              let other_is : other ≡ head = cc in
              let its_is : its ≡ normal_spelling changes = cc in
              (ap (λ (h : PushHead). h.base) (mine_is ∙ sym other_is), changeset_is ∙ sym its_is)
        ]

    pushed_sound : IsSound limit next
    pushed_sound =
        moved_sound laws.longer laws.stands laws.others limit w r before after (message ∷ []) s was counts after_placed
        (λ m k at. let is = (in_one m message k at).1 in (rw is fits_message, rw is true_message)) one_push

  -- ---- the hub serves

  -- what a replica asked was offered so
  by_replica : (k r : ℕ) (asked : Asked) (head : PushHead) (body : Body) → IsMessage w k (Asks r asked) → IsTrueAsked w asked → service.IsOfferedBy asked head body → WasOffered w head body
  by_replica k r asked head (Changes changes) there t same = subst (WasAsked w) same (k, r, there)
  by_replica k r asked head (Widen table width) there t (origin, same) = absurd (subst (IsTrueAsked w) same t)

  -- and what was asked for none
  by_nobody : (k : ℕ) (asked : Asked) (head : PushHead) (body : Body) → IsMessage w k (Orders asked) → IsTrueOrder asked → service.IsOfferedBy asked head body → WasOffered w head body
  by_nobody k asked head (Changes changes) there t same = absurd (subst IsTrueOrder same t)
  by_nobody k asked head (Widen table width) there t (origin, same) = (origin, subst (WasOrdered w) same (k, there))

  served : (asked : Asked) (answer : Answer) (log : List LogEntry) (message : Sent) → (IsTrueAnswer (with_log w log) answer → IsTrue (with_message (with_log w log) message) message)
      → FitsSent message → ((j : ℕ) (head : PushHead) (changeset : List ℕ) → message ≡ Asks j (AsksPush head changeset) → ⊥)
      → ((head : PushHead) (body : Body) → service.IsOfferedBy asked head body → WasOffered w head body)
      → FitsAnswer answer → service.IsServed limit w asked (answer_spelling answer) log
      → IsSound limit (with_message (with_log w log) message)
  served asked answer log message true fits_message quiet offers fits v =
      let new : World = with_message (with_log w log) message in
      let goes : Goes w new (message ∷ []) = record {
        more = v.more;
        tables_same = refl;
        log_is = v.log_is;
        messages_are = refl;
        counts = λ j m at. (m, at, omega arith);
      } in
      next_sound laws.longer laws.stands laws.others w new (message ∷ []) goes limit s v.is_log v.entries v.short
      (λ j m at. placed_on laws.longer laws.stands laws.others w new (message ∷ []) goes j m (s.placed j m at))
      (λ m j at. let is = (in_one m message j at).1 in (rw is fits_message, rw is (true (service.served_true laws.service limit small w s asked answer log fits v))))
      (no_push laws.longer laws.stands laws.others new message quiet)
      (λ at entry is. elim (v.new_at at entry is) [
        | inl old ↦ offered_on laws.longer laws.stands laws.others w new (message ∷ []) goes at entry (s.offered at entry old)
        | inr same ↦ offered_on laws.longer laws.stands laws.others w new (message ∷ []) goes at entry (offers (record { origin = entry.origin; number = entry.number; base = at }) entry.body same)
      ])

  -- ---- a replica hears an answer

  heard : (k r : ℕ) (wishes : List Wish) (answer : Answer) (before after : Member) (result : Result Told AnswerFault) → IsMessage w k (Tells r answer) → IsMember w r before → Hears before answer wishes result after
      → IsSound limit (with_member w r after) × IsGood (step.heard result)
  heard k r wishes answer before after result there was hears =
      let p = s.placed r before was in
      let on = answers.hears_on laws.answers limit small w s r before p answer wishes result after (s.true k (Tells r answer) there) hears in (
        quiet_sound laws.longer laws.stands laws.others limit w r before after s was (omega (arith, on.0.number)) (record {
          id = on.0.id ∙ p.id;
          small = p.small;
          tables = on.0.tables_are;
          are = subst AreTables (sym on.0.tables_are) (laws.catalogs w.tables w.log after.position.version s.tables s.log);
          fits = record { id = rw on.0.id p.fits.id; version = omega (arith, on.0.stands.within, s.short, small) };
          contents = hears.left;
          shown = hears.shows;
          stands = on.0.stands;
          sent = λ changes flight.
              let was_so = on.0.flight changes flight in
              rw (on.0.id, on.0.number, was_so.1) (p.sent changes was_so.0);
        }),
        on.1,
      )

  pub step_sound : {event : Event} {outcome : Outcome} {new : World} → Step limit w event outcome new → IsSound limit new × IsGood outcome
  step_sound (step.edits {r = r} {asked = asked} {before = before} {next = next} {left = left} count was made shows) = (edited r count asked before next left was made shows, λ n e. cc)
  step_sound (step.edits_not was why) = (s, λ n e. cc)
  step_sound (step.pushes {r = r} {before = before} {left = left} {changes = changes} was made) = (pushed_sound r before left changes was made, λ n e. cc)
  step_sound (step.pushes_not was why) = (s, λ n e. cc)
  step_sound (step.resends {r = r} {before = before} {changes = changes} was flight) =
      (again_sound laws.longer laws.stands laws.others limit w r (request_of before.position changes) s ((s.placed r before was).sent changes flight), λ n e. cc)
  step_sound (step.resends_not was why) = (s, λ n e. cc)
  step_sound (step.asks {r = r} {count = count} {before = before} few was) = (
    said_sound laws.longer laws.stands laws.others limit w (Asks r (AsksPull before.position.version count)) s (record { first_fits = (s.placed r before was).fits.version; limit_fits = few }) tt
        (no_push laws.longer laws.stands laws.others (with_message w (Asks r (AsksPull before.position.version count))) (Asks r (AsksPull before.position.version count)) (λ j head changeset e. cc)),
    λ n e. cc,
  )
  step_sound (step.catches {r = r} {count = count} {before = before} few was) =
      let p = s.placed r before was in
      let message : Sent = Asks r (AsksCatch before.position.id before.position.version count) in (
        said_sound laws.longer laws.stands laws.others limit w message s (record { origin_fits = p.fits.id; first_fits = p.fits.version; limit_fits = few }) tt
            (no_push laws.longer laws.stands laws.others (with_message w message) message (λ j head changeset e. cc)),
        λ n e. cc,
      )
  step_sound (step.restarts was) = (s, λ n e. cc)
  step_sound (step.restarts_not was why) = (s, λ n e. cc)
  step_sound (step.serves {k = k} {r = r} {asked = asked} {log = log} answer there fits serves) =
      let t = s.true k (Asks r asked) there in (
        served asked answer log (Tells r answer) (λ true. true) fits (λ j head changeset e. cc) (λ head body. by_replica k r asked head body there t) fits
            (service.served laws.service limit small w s asked (answer_spelling answer) log (s.spelled k (Asks r asked) there) (inl t) serves),
        λ n e. cc,
      )
  step_sound (step.obeys {k = k} {asked = asked} {log = log} answer there fits serves) =
      let t = s.true k (Orders asked) there in (
        served asked answer log (Replies answer) (λ true. true) fits (λ j head changeset e. cc) (λ head body. by_nobody k asked head body there t) fits
            (service.served laws.service limit small w s asked (answer_spelling answer) log (s.spelled k (Orders asked) there) (inr t) serves),
        λ n e. cc,
      )
  step_sound (step.ignores there) = (s, λ n e. cc)
  step_sound (step.orders {wider = wider} fits) = (
    said_sound laws.longer laws.stands laws.others limit w (Orders (step.asked_of_wider wider)) s fits tt
        (no_push laws.longer laws.stands laws.others (with_message w (Orders (step.asked_of_wider wider))) (Orders (step.asked_of_wider wider)) (λ j head changeset e. cc)),
    λ n e. cc,
  )
  step_sound (step.hears {k = k} {r = r} {wishes = wishes} {answer = answer} {before = before} {after = after} {result = result} there was hears) = heard k r wishes answer before after result there was hears
  step_sound (step.no_replica to none) = (s, λ n e. cc)
  step_sound (step.no_message none) = (s, λ n e. cc)
  step_sound step.no_memory = (s, λ n e. cc)

pub steps_are_sound : Below → StepsAreSound
steps_are_sound laws limit old new event outcome small s step = step_sound laws limit small old s step

-- what the hub answers to what was asked spells an answer
pub answers_fit : service.Below → AnswersFit
answers_fit laws limit w k asked bytes log small s there serves =
    let v : service.IsServed limit w asked bytes log = elim there [
      | inl (r, mine) ↦ service.served laws limit small w s asked bytes log (s.spelled k (Asks r asked) mine) (inl (s.true k (Asks r asked) mine)) serves
      | inr none ↦ service.served laws limit small w s asked bytes log (s.spelled k (Orders asked) none) (inr (s.true k (Orders asked) none)) serves
    ] in
    (v.answer, v.fits, v.spelled)
