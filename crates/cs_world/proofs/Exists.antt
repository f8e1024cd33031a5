-- An event has an outcome that is no refusal.
use Rattle.std.proofs.Common.{◌≡◌, ◌∙◌, ◌++◌, ◌+◌, ◌<◌, ◌^◌, ℕ, List, [], ◌∷◌, map, Option, Some, None, Result, Ok, Err, length, slice_get, refl, sym, ap, subst, inl, inr, arith}
use Rattle.std.specs.Prelude.{◌⊎◌, All, IsUtf8, drop, take}
use Rattle.std.proofs.Math.Nat.{min-eq_left}
use Rattle.std.proofs.lemmas.List.{length-take}
use Rattle.std.proofs.lemmas.Option.{slice_get_within}
use Rattle.std.specs.List.{AllByRecursion}
use Rattle.std.proofs.lemmas.Bool.{cases_lt}
use Rattle.cs_conflict.specs.Laws.{GuardedIsLawful}
use Rattle.cs_conflict.specs.Wishes.{guarded}
use Rattle.cs_conflict.specs.declared.wish.Wish.{Wish}
use Rattle.cs_hub.specs.judgement.Widens.{WidenAsked, Widens, entry_of_widen}
use Rattle.cs_hub.specs.Refusals.{refusal_code, refusal_of_hub}
use Rattle.cs_hub.specs.Serves.{Serves, caught_answer, or_refusal, push_answer, refused, widen_head}
use Rattle.cs_hub.specs.catching.Laws.{CatchHasAnswer}
use Rattle.cs_hub.specs.declared.catching.caught.Caught.{Caught}
use Rattle.cs_hub.specs.declared.catching.caught.Caught.TheVariants as caught
use Rattle.cs_hub.specs.judgement.Hub.{HubState, entries_from, judging}
use Rattle.cs_hub.specs.judgement.Judged.{hub_of}
use Rattle.cs_hub.specs.judgement.Laws.{PushHasAnswer, WidenHasAnswer}
use Rattle.cs_hub.specs.judgement.Pushes.{Push, Pushes, entry_of_push}
use Rattle.cs_hub.specs.declared.judgement.fault.HubFault.{HubFault}
use Rattle.cs_hub.specs.declared.judgement.fault.HubFault.TheVariants as hub
use Rattle.cs_hub.specs.declared.judgement.push.Pushed.{Pushed}
use Rattle.cs_hub.specs.declared.judgement.push.Pushed.TheVariants as pushed
use Rattle.cs_store.specs.declared.log.entry.LogEntry.{LogEntry}
use Rattle.cs_store.specs.log.Entry.{WidensNone, entry_changes}
use Rattle.cs_store.specs.log.Laws.{CatalogNext, CatalogsAreTables}
use Rattle.cs_store.specs.log.Log.{catalog_at}
use Rattle.cs_normalising.specs.NormalFormOf.{IsNormalFormOf}
use Rattle.cs_store.specs.log.Stored.{AreChangesOf}
use Rattle.cs_replica.specs.StepLaws.{EditHasResult, IsInRange, IsOfEdit, IsOfPushed, PushHasResult}
use Rattle.cs_replica.specs.Step.{IsEditedTo, IsPushAsked}
use Rattle.cs_normalising.specs.Laws.{NormalAgain}
use Rattle.cs_normal.specs.Laws.{NormalIsTaken}
use Rattle.cs_normal.specs.Normal.{groups_of}
use Rattle.cs_normal.specs.declared.normal.TableChanges.{TableChanges}
use Rattle.cs_pending.specs.View.{View}
use Rattle.cs_pending.specs.declared.fault.EditFault.{EditFault}
use Rattle.cs_pending.specs.position.Shows.{ShowsAt}
use Rattle.cs_pending.specs.declared.position.position.Position.{Position}
use Rattle.cs_exchange.specs.declared.pulling.fault.AnswerFault.{AnswerFault}
use Rattle.cs_exchange.specs.declared.pulling.fault.AnswerFault.TheVariants as hearing
use Rattle.cs_exchange.specs.declared.pulling.listing.Pulled.TheVariants as pulled
use Rattle.cs_exchange.specs.pushing.Laws.{IsOfPush}
use Rattle.cs_exchange.specs.pushing.Pushes.{grounded, pushed as pushed_position, request_of}
use Rattle.cs_exchange.specs.declared.pushing.fault.PushFault.{PushFault}
use Rattle.cs_exchange.specs.declared.pushing.fault.PushFault.TheVariants as pushing
use Rattle.cs_replica.specs.Answered.{Answers, TellsMerged}
use Rattle.cs_replica.specs.Edited.{with_pending}
use Rattle.cs_replica.specs.Laws.{AnswerHasResult, IsInBytes, IsOfAnswer}
use Rattle.cs_replica.specs.declared.told.Told.{Told}
use Rattle.cs_replica.specs.declared.told.Told.TheVariants.{Ignored}
use Rattle.cs_store.specs.Contents.{Contents}
use Rattle.cs_exchange.specs.taking.Laws.{AnswersLawfully}
use Rattle.cs_value.specs.declared.catalog.TableDef.{TableDef}
use Rattle.cs_value.specs.declared.edit.Edit.{Edit}
use Rattle.cs_wire.specs.Answers.{answer_spelling}
use Rattle.cs_wire.specs.Entries.{ToldEntry}
use Rattle.cs_wire.specs.Requests.{Asked, AsksCatch, AsksPull, AsksPush, AsksWiden, FitsRequest, request_spelling}
use Rattle.cs_wire.specs.Told.{told_entry}
use Rattle.cs_wire.specs.declared.answer.Answer.{Answer}
use Rattle.cs_wire.specs.declared.answer.Answer.TheVariants.{Entries, Merged, Short}
use Rattle.cs_wire.specs.declared.push_head.PushHead.{PushHead}
use Rattle.cs_wire.specs.declared.short_answer.ShortAnswer.TheVariants as short
use Rattle.cs_wire.specs.declared.short_answer.ShortAnswer.TheVariants.{Refused}
use Rattle.cs_conflict.specs.wish_list.Wished.{IsWished, next_wish, wishes_left}
use Rattle.cs_world.specs.Laws.{AnswersFit, AskHasStep, CatchHasStep, DeliverHasStep, EditHasStep, HasStep, OrderHasStep, PushHasStep, ResendHasStep, RestartHasStep}
use Rattle.cs_world.specs.Wider.{Wider}
use Rattle.cs_world.specs.Same.{IsRefused, device_code}
use Rattle.cs_world.specs.Sound.{IsSound, IsTrueAsked, IsTrueOrder, IsTruePush}
use Rattle.cs_world.specs.Steps as step
use Rattle.cs_world.specs.Steps.{addressee, heard}
use Rattle.cs_world.specs.World.{Asks, IsMember, IsMessage, Member, Orders, Replies, Sent, Tells, World, with_log, with_member, with_message}
use Rattle.cs_world.specs.declared.event.Event.{Event}
use Rattle.cs_world.specs.declared.event.Event.TheVariants.{AskCatch, AskPull, AskWiden, Deliver, MakePush, OnEdit, Resend, Restart}
use Rattle.cs_world.specs.declared.outcome.Outcome.TheVariants as told
use Rattle.cs_world.proofs.Catalogs.{named_of, plain_on}
use Rattle.cs_world.proofs.Found.{added, all_at, all_from, front_at, in_drop, in_take}

-- the laws below
pub record Below : Type 0 where
  pub fits : AnswersFit
  pub lawful : GuardedIsLawful
  pub push : PushHasAnswer
  pub taken : NormalIsTaken
  pub again : NormalAgain
  pub answer : AnswerHasResult IsWished (λ wishes. Unit {0})
  pub catch : CatchHasAnswer
  pub widen : WidenHasAnswer
  pub catalogs : CatalogsAreTables
  pub next : CatalogNext

there_or_not : {A : Type 0} (o : Option A) → (o ≡ None) ⊎ ((a : A) × (o ≡ Some a))
there_or_not None = inl refl
there_or_not (Some a) = inr (a, refl)

-- what was sent tells of no failed device
not_sent : (world : World) (message : Sent) → ((r : ℕ) → message ≡ Tells r (Short (Refused device_code)) → ⊥) → (message ≡ Replies (Short (Refused device_code)) → ⊥) → IsRefused (told.Sent (length world.messages)) (with_message world message) → ⊥
not_sent world message never not (inl (r, at)) =
    let is : Some message ≡ Some (Tells r (Short (Refused device_code))) = sym (added world.messages message) ∙ at in
    never r cc
not_sent world message never not (inr at) =
    let is : Some message ≡ Some (Replies (Short (Refused device_code))) = sym (added world.messages message) ∙ at in
    not cc

asks_nothing_failed : (r q : ℕ) (asked : Asked) → Asks r asked ≡ Tells q (Short (Refused device_code)) → ⊥
asks_nothing_failed r q asked is = cc

asks_nobody : (r : ℕ) (asked : Asked) → Asks r asked ≡ Replies (Short (Refused device_code)) → ⊥
asks_nobody r asked is = cc

module _ (limit : ℕ) (world : World) where
  no_replica : (event : Event) (r : ℕ) → addressee world event ≡ Some r → slice_get world.members r ≡ None → HasStep limit world event
  no_replica event r to none = (told.NoReplica, world, λ is. is, step.no_replica to none)

  -- ---- an edit

  edit_there : (r : ℕ) (asked : Edit) (before after : Member) (result : Result (Unit {0}) EditFault) → IsMember world r before → IsOfEdit result → IsEditedTo asked result before after → HasStep limit world (OnEdit r asked)
  edit_there r asked before after (Ok done) was of (count, next, left, is, made, shows) = (
    told.Done,
    with_member world r (record before { position = with_pending before.position count; view = next }),
    λ is. is,
    step.edits {left = left} count was made shows,
  )
  edit_there r asked before after (Err fault) was of (still, inl store) = absurd (of store)
  edit_there r asked before after (Err fault) was of (still, inr refused) = (told.NotEdited fault, world, of, step.edits_not was (inr refused))

  pub edit_exists : EditHasResult → IsSound limit world → (r : ℕ) (asked : Edit) → IsInRange asked → HasStep limit world (OnEdit r asked)
  edit_exists law s r asked ranged =
      elim (there_or_not (slice_get world.members r)) [
        | inl none ↦ no_replica (OnEdit r asked) r refl none
        | inr (before, was) ↦
            let p = s.placed r before was in
            let all = law asked before p.are ranged (record { contents = p.contents; shows = p.shown }) in
            edit_there r asked before all.1 all.0 was all.2 all.3
      ]

  -- ---- a push

  push_says : (fault : PushFault) → IsOfPush fault → IsRefused (told.NotPushed fault) world → ⊥
  push_says fault of (inl is) = of.0 is
  push_says fault of (inr is) = of.1 is

  push_there : (r : ℕ) (before after : Member) (result : Result Asked PushFault) → IsMember world r before → IsOfPushed result → IsPushAsked result before after → HasStep limit world (MakePush r)
  push_there r before after (Ok asked) was of (changes, left, is, made, asks) =
      let position : Position = pushed_position before.position changes in
      let new : World = with_member world r (record before { position = position; view = grounded before.view }) in (
        told.Sent (length world.messages),
        with_message new (Asks r (request_of position changes)),
        not_sent new (Asks r (request_of position changes)) (λ q. asks_nothing_failed r q (request_of position changes)) (asks_nobody r (request_of position changes)),
        step.pushes {left = left} was made,
      )
  push_there r before after (Err fault) was of (still, refused) = (told.NotPushed fault, world, push_says fault of, step.pushes_not {before = before} was refused)

  pub push_exists : PushHasResult → IsSound limit world → AllByRecursion (λ table. IsUtf8 table.name) world.tables → (r : ℕ) → HasStep limit world (MakePush r)
  push_exists law s named r =
      elim (there_or_not (slice_get world.members r)) [
        | inl none ↦ no_replica (MakePush r) r refl none
        | inr (before, was) ↦
            let p = s.placed r before was in
            let its_named = subst (AllByRecursion (λ table. IsUtf8 table.name)) (sym p.tables) (named_of world.tables (take before.position.version world.log) named) in
            let all = law before p.are its_named (record { contents = p.contents; shows = p.shown }) in
            push_there r before all.1 all.0 was all.2 all.3
      ]

  -- ---- a push once more

  nothing_says : IsRefused (told.NotPushed pushing.Nothing) world → ⊥
  nothing_says (inl is) = cc
  nothing_says (inr is) = cc

  resend_there : (r : ℕ) (before : Member) → IsMember world r before → (flight : Option (List TableChanges)) → before.position.flight ≡ flight → HasStep limit world (Resend r)
  resend_there r before was None is = (told.NotPushed pushing.Nothing, world, nothing_says, step.resends_not {before = before} was is)
  resend_there r before was (Some changes) is = (
    told.Sent (length world.messages),
    with_message world (Asks r (request_of before.position changes)),
    not_sent world (Asks r (request_of before.position changes)) (λ q. asks_nothing_failed r q (request_of before.position changes)) (asks_nobody r (request_of before.position changes)),
    step.resends was is,
  )

  pub resend_exists : (r : ℕ) → HasStep limit world (Resend r)
  resend_exists r =
      elim (there_or_not (slice_get world.members r)) [
        | inl none ↦ no_replica (Resend r) r refl none
        | inr (before, was) ↦ resend_there r before was before.position.flight refl
      ]

  -- ---- entries are asked for, and a store is read again

  pub ask_exists : (r count : ℕ) → count < 2 ^ 32 → HasStep limit world (AskPull r count)
  ask_exists r count few =
      elim (there_or_not (slice_get world.members r)) [
        | inl none ↦ no_replica (AskPull r count) r refl none
        | inr (before, was) ↦ (
          told.Sent (length world.messages),
          with_message world (Asks r (AsksPull before.position.version count)),
          not_sent world (Asks r (AsksPull before.position.version count)) (λ q. asks_nothing_failed r q (AsksPull before.position.version count)) (asks_nobody r (AsksPull before.position.version count)),
          step.asks few was,
        )
      ]

  pub catch_exists : (r count : ℕ) → count < 2 ^ 32 → HasStep limit world (AskCatch r count)
  catch_exists r count few =
      elim (there_or_not (slice_get world.members r)) [
        | inl none ↦ no_replica (AskCatch r count) r refl none
        | inr (before, was) ↦
            let asked : Asked = AsksCatch before.position.id before.position.version count in (
              told.Sent (length world.messages),
              with_message world (Asks r asked),
              not_sent world (Asks r asked) (λ q. asks_nothing_failed r q asked) (asks_nobody r asked),
              step.catches few was,
            )
      ]

  pub restart_exists : (r : ℕ) → HasStep limit world (Restart r)
  restart_exists r =
      elim (there_or_not (slice_get world.members r)) [
        | inl none ↦ no_replica (Restart r) r refl none
        | inr (before, was) ↦ (told.Done, world, λ is. is, step.restarts was)
      ]

  -- ---- a wider table is asked for

  pub order_exists : (wider : Wider) → FitsRequest (step.asked_of_wider wider) → HasStep limit world (AskWiden wider)
  order_exists wider fits =
      let message = Orders (step.asked_of_wider wider) in
      (told.Sent (length world.messages), with_message world message, not_sent world message (λ q is. cc) (λ is. cc), step.orders fits)

-- ---- a request is served

-- the hub's answer and its log after it; it tells of no failed device
pub record Served (limit : ℕ) (world : World) (asked : Asked) : Type 0 where
  pub bytes : List ℕ
  pub log : List LogEntry
  pub serves : Serves limit (hub_of world.tables world.log) (request_spelling asked) bytes (hub_of world.tables log)
  pub well : bytes ≡ answer_spelling (Short (Refused device_code)) → ⊥

same_first : (x y : ℕ) (xs ys : List ℕ) → x ∷ xs ≡ y ∷ ys → x ≡ y
same_first x y xs ys is = cc

same_code : (x a y b : ℕ) → x ∷ a ∷ [] ≡ y ∷ b ∷ [] → a ≡ b
same_code x a y b is = cc

-- no code of a hub's refusal but one is that of a failed device
refusal_well : (fault : HubFault) → (fault ≡ hub.Device → ⊥) → answer_spelling (Short (Refused (refusal_code (refusal_of_hub fault)))) ≡ answer_spelling (Short (Refused device_code)) → ⊥
refusal_well hub.Memory not is = let codes = same_code 19 1 19 44 is in omega (arith, codes)
refusal_well hub.Ahead not is = let codes = same_code 19 40 19 44 is in omega (arith, codes)
refusal_well (hub.Conflict conflict) not is = let codes = same_code 19 41 19 44 is in omega (arith, codes)
refusal_well hub.Empty not is = let codes = same_code 19 42 19 44 is in omega (arith, codes)
refusal_well hub.Full not is = let codes = same_code 19 43 19 44 is in omega (arith, codes)
refusal_well hub.BadWiden not is = let codes = same_code 19 46 19 44 is in omega (arith, codes)
refusal_well hub.Device not is = not refl

push_well : (head : PushHead) (outcome : Result Pushed HubFault) → (outcome ≡ Err hub.Device → ⊥) → answer_spelling (push_answer head (or_refusal outcome)) ≡ answer_spelling (Short (Refused device_code)) → ⊥
push_well head (Ok (pushed.Accepted version)) not is = let tags = same_first 17 19 _ _ is in omega (arith, tags)
push_well head (Ok (pushed.Stale newest)) not is = let tags = same_first 18 19 _ _ is in omega (arith, tags)
push_well head (Err fault) not is = refusal_well fault (λ e. not (ap (λ (f : HubFault). Err f) e)) is

entries_well : (first : ℕ) (entries : List ToldEntry) → answer_spelling (Entries first entries) ≡ answer_spelling (Short (Refused device_code)) → ⊥
entries_well first entries is = let tags = same_first 20 19 _ _ is in omega (arith, tags)

-- what entries that were taken together leave is shown
shown_together : (tables : List TableDef) (origin first next : ℕ) (changeset : List ℕ) (result : Result Told AnswerFault) (position : Position) (before : View) (p : List Wish) (other : Position) (new : Contents) (q : List Wish)
    → TellsMerged IsWished tables origin first next changeset result position before p other new q → (view : View) × ShowsAt tables new other view
shown_together tables origin first next changeset result position before p other new q (inl (away, is, (same, keeps))) = (before, keeps.0)
shown_together tables origin first next changeset result position before p other new q (inr (inl (mine, none, is, (same, keeps)))) = (before, keeps.0)
shown_together tables origin first next changeset result position before p other new q (inr (inr (inl (mine, below, is, (same, keeps))))) = (before, keeps.0)
shown_together tables origin first next changeset result position before p other new q (inr (inr (inr (mine, above, Ok (pulled.Taken count), is, (sum, changes, after, form, moved, shows, takes))))) = (after, shows)
shown_together tables origin first next changeset result position before p other new q (inr (inr (inr (mine, above, Ok (pulled.Stopped count), is, (none, changes, conflict, form, stops, (same, shows)))))) = (before, rw same shows)
shown_together tables origin first next changeset result position before p other new q (inr (inr (inr (mine, above, Err (hearing.Memory count), is, (none, (same, shows)))))) = (before, rw same shows)
shown_together tables origin first next changeset result position before p other new q (inr (inr (inr (mine, above, Err (hearing.Device count), is, (none, (same, shows)))))) = (before, rw same shows)
shown_together tables origin first next changeset result position before p other new q (inr (inr (inr (mine, above, Err (hearing.BadEntry count), is, (none, bad, unasked, (same, shows)))))) = (before, rw same shows)

-- by the tables that stay
shown_as : (tables others : List TableDef) (other : Position) (new : Contents) (view : View) → others ≡ tables → ShowsAt tables new other view → (end : View) × ShowsAt others new other end
shown_as tables others other new view wide shows = (view, subst (λ (ts : List TableDef). ShowsAt ts new other view) (sym wide) shows)

-- what an answer leaves is shown
shown_view : (tables : List TableDef) (answer : Answer) (result : Result Told AnswerFault) (position : Position) (before : View) (p : List Wish) (others : List TableDef) (other : Position) (new : Contents) (q : List Wish)
    → Answers IsWished tables answer result position before p others other new q → (view : View) × ShowsAt others new other view
shown_view tables (Short (short.Accepted origin number version)) result position before p others other new q (wide, tells, keeps) = shown_as tables others other new before wide keeps.0
shown_view tables (Short (short.Stale newest)) result position before p others other new q (wide, is, (same, keeps)) = shown_as tables others other new before wide keeps.0
shown_view tables (Short (short.Refused code)) result position before p others other new q (wide, is, (same, keeps)) = shown_as tables others other new before wide keeps.0
shown_view tables (Entries first entries) result position before p others other new q (pulled, is, list) = (list.0, list.3)
shown_view tables (Merged origin first next changeset) result position before p others other new q (wide, tells) =
    let shown = shown_together tables origin first next changeset result position before p other new q tells in
    shown_as tables others other new shown.0 wide shown.1

module _ (laws : Below) (limit : ℕ) (small : limit < 2 ^ 32) (world : World) (s : IsSound limit world) where
  abbrev the_hub : HubState
  the_hub = hub_of world.tables world.log

  -- the hub after a push has a log, and no device failed
  judged_so : (push : Push) (outcome : Result Pushed HubFault) (new : HubState) → Pushes limit the_hub push outcome new → (log : List LogEntry) × (new ≡ hub_of world.tables log) × (outcome ≡ Err hub.Device → ⊥)
  judged_so push outcome new (inl (none, (is, same))) = (world.log, same, λ e. let f = sym is ∙ e in cc)
  judged_so push outcome new (inr (some, inl (above, (is, same)))) = (world.log, same, λ e. let f = sym is ∙ e in cc)
  judged_so push outcome new (inr (some, inr (not_above, inl (again, (is, same))))) = (world.log, same, λ e. let f = sym is ∙ e in cc)
  judged_so push outcome new (inr (some, inr (not_above, inr (no_repeat, inl (below, (is, same)))))) = (world.log, same, λ e. let f = sym is ∙ e in cc)
  judged_so push outcome new (inr (some, inr (not_above, inr (no_repeat, inr (not_below, inl (full, (is, same))))))) = (world.log, same, λ e. let f = sym is ∙ e in cc)
  judged_so push outcome new (inr (some, inr (not_above, inr (no_repeat, inr (not_below, inr (room, inl (can, (is, same)))))))) =
      (world.log ++ entry_of_push push ∷ [], same, λ e. let f = sym is ∙ e in cc)
  judged_so push outcome new (inr (some, inr (not_above, inr (no_repeat, inr (not_below, inr (room, inr (cannot, ((conflict, first, is), same)))))))) =
      (world.log, same, λ e. let f = sym is ∙ e in cc)

  push_served : (head : PushHead) (changeset : List ℕ) → FitsRequest (AsksPush head changeset) → IsTruePush world head changeset → Served limit world (AsksPush head changeset)
  push_served head changeset fits t =
      let the_push : Push = record { head = head; changes = t.changes } in
      let at_base : List TableDef = catalog_at world.tables world.log head.base in
      let by_version : at_base ≡ judging the_hub head.base = ap (λ (v : ℕ). catalog_at world.tables world.log v) (sym (min-eq_left t.within)) in
      let pushes = laws.push limit the_hub the_push (record { tables = s.tables; log = s.log }) (subst (λ (ts : List TableDef). AreChangesOf ts t.changes) by_version t.of_tables) in
      let so = judged_so the_push pushes.0 pushes.1 pushes.2 in
      let taken = laws.taken t.changes t.of_tables.0 in
      let form = subst (λ (ts : List TableDef). IsNormalFormOf ts (groups_of t.changes) t.changes) by_version (laws.again at_base t.changes (laws.catalogs world.tables world.log head.base s.tables s.log) t.of_tables.0 t.of_tables.1) in
      record {
        bytes = answer_spelling (push_answer head (or_refusal pushes.0));
        log = so.0;
        serves = (
          Ok (AsksPush head changeset),
          (fits, refl),
          (
            or_refusal pushes.0,
            inr (groups_of t.changes, taken.0, t.spelled ∙ sym taken.1, inr (t.changes, form, (pushes.0, subst (λ (h : HubState). Pushes limit the_hub the_push pushes.0 h) so.1 pushes.2, refl))),
            refl,
          ),
        );
        well = push_well head pushes.0 so.2;
      }

  -- the same of a wider table
  widened_so : (asked : WidenAsked) (outcome : Result Pushed HubFault) (new : HubState) → Widens limit the_hub asked outcome new → (log : List LogEntry) × (new ≡ hub_of world.tables log) × (outcome ≡ Err hub.Device → ⊥)
  widened_so asked outcome new (inl (above, (is, same))) = (world.log, same, λ e. let f = sym is ∙ e in cc)
  widened_so asked outcome new (inr (not_above, inl (again, (is, same)))) = (world.log, same, λ e. let f = sym is ∙ e in cc)
  widened_so asked outcome new (inr (not_above, inr (no_repeat, inl (below, (is, same))))) = (world.log, same, λ e. let f = sym is ∙ e in cc)
  widened_so asked outcome new (inr (not_above, inr (no_repeat, inr (not_below, inl (full, (is, same)))))) = (world.log, same, λ e. let f = sym is ∙ e in cc)
  widened_so asked outcome new (inr (not_above, inr (no_repeat, inr (not_below, inr (room, inl (can, (is, same))))))) =
      (world.log ++ entry_of_widen asked ∷ [], same, λ e. let f = sym is ∙ e in cc)
  widened_so asked outcome new (inr (not_above, inr (no_repeat, inr (not_below, inr (room, inr (cannot, (is, same))))))) = (world.log, same, λ e. let f = sym is ∙ e in cc)

  widen_served : (asked : WidenAsked) → FitsRequest (AsksWiden asked.number asked.base asked.width asked.table) → Served limit world (AsksWiden asked.number asked.base asked.width asked.table)
  widen_served asked fits =
      let widens = laws.widen limit the_hub asked in
      let so = widened_so asked widens.0 widens.1 widens.2 in
      record {
        bytes = answer_spelling (push_answer (widen_head asked.number asked.base) (or_refusal widens.0));
        log = so.0;
        serves = (
          Ok (AsksWiden asked.number asked.base asked.width asked.table),
          (fits, refl),
          (or_refusal widens.0, (widens.0, subst (λ (h : HubState). Widens limit the_hub asked widens.0 h) so.1 widens.2, refl), refl),
        );
        well = push_well (widen_head asked.number asked.base) widens.0 so.2;
      }

  pull_served : (first count : ℕ) → FitsRequest (AsksPull first count) → Served limit world (AsksPull first count)
  pull_served first count fits =
      elim (cases_lt (length world.log) first) [
        | inl above ↦ record {
          bytes = refused (refusal_of_hub hub.Ahead);
          log = world.log;
          serves = (Ok (AsksPull first count), (fits, refl), (inl (above, refl), refl));
          well = refusal_well hub.Ahead (λ e. cc);
        }
        | inr within ↦ record {
          bytes = answer_spelling (Entries first (map told_entry (entries_from first count world.log)));
          log = world.log;
          serves = (Ok (AsksPull first count), (fits, refl), (inr (within, refl), refl));
          well = entries_well first (map told_entry (entries_from first count world.log));
        }
      ]

  catch_well : (asker first : ℕ) (told : Caught) → answer_spelling (caught_answer asker first world.log told) ≡ answer_spelling (Short (Refused device_code)) → ⊥
  catch_well asker first caught.Alone is = entries_well first (map told_entry (entries_from first 1 world.log)) is
  catch_well asker first (caught.Merged count changes) is = let tags = same_first 21 19 _ _ is in omega (arith, tags)

  -- entries that widen none are of the tables at the first of them
  plain_changes : (first count : ℕ) → All (λ entry. WidensNone entry.body) (take count (drop first world.log))
      → All (λ entry. AreChangesOf (catalog_at world.tables world.log first) (entry_changes entry)) (take count (drop first world.log))
  plain_changes first count plain =
      all_from (λ (entry : LogEntry). AreChangesOf (catalog_at world.tables world.log first) (entry_changes entry)) (take count (drop first world.log)) (λ at entry there.
      let here = in_drop first world.log at entry (in_take count (drop first world.log) at entry there) in
      let within = slice_get_within world.log (first + at) entry here in
      let below = slice_get_within (take count (drop first world.log)) at entry there in
      let same = plain_on laws.next world.tables world.log first at (omega (arith, within)) (λ j e less its.
      all_at (λ (x : LogEntry). WidensNone x.body) (take count (drop first world.log)) j e plain (front_at count first world.log j e (let n = length-take count (drop first world.log) in omega (arith, less, below, n)) its)) in
      subst (λ (ts : List TableDef). AreChangesOf ts (entry_changes entry)) same (s.entries (first + at) entry here).0.changes)

  catch_served : (asker first count : ℕ) → FitsRequest (AsksCatch asker first count) → Served limit world (AsksCatch asker first count)
  catch_served asker first count fits =
      elim (cases_lt (length world.log) first) [
        | inl above ↦ record {
          bytes = refused (refusal_of_hub hub.Ahead);
          log = world.log;
          serves = (Ok (AsksCatch asker first count), (fits, refl), (inl (above, refl), refl));
          well = refusal_well hub.Ahead (λ e. cc);
        }
        | inr within ↦
            let told = laws.catch (catalog_at world.tables world.log first) asker count (drop first world.log) (laws.catalogs world.tables world.log first s.tables s.log) (plain_changes first) in
            record {
              bytes = answer_spelling (caught_answer asker first world.log told.0);
              log = world.log;
              serves = (Ok (AsksCatch asker first count), (fits, refl), (inr (within, (told.0, told.1, refl)), refl));
              well = catch_well asker first told.0;
            }
      ]

  asked_served : (asked : Asked) → FitsRequest asked → IsTrueAsked world asked ⊎ IsTrueOrder asked → Served limit world asked
  asked_served (AsksPull first count) fits t = pull_served first count fits
  asked_served (AsksCatch asker first count) fits t = catch_served asker first count fits
  asked_served (AsksPush head changeset) fits (inl t) = push_served head changeset fits t
  asked_served (AsksPush head changeset) fits (inr none) = absurd none
  asked_served (AsksWiden number base width table) fits t = widen_served (record { number = number; base = base; table = table; width = width }) fits

  serve_exists : (k r : ℕ) (wishes : List Wish) (asked : Asked) → IsMessage world k (Asks r asked) → HasStep limit world (Deliver k wishes)
  serve_exists k r wishes asked there =
      let v = asked_served asked (s.spelled k (Asks r asked) there) (inl (s.true k (Asks r asked) there)) in
      let answered = laws.fits limit world k asked v.bytes v.log small s (inl (r, there)) (inl v.serves) in
      let serves = subst (λ (b : List ℕ). Serves limit the_hub (request_spelling asked) b (hub_of world.tables v.log)) answered.2 v.serves in (
        told.Sent (length world.messages),
        with_message (with_log world v.log) (Tells r answered.0),
        not_sent (with_log world v.log) (Tells r answered.0)
            (λ q is. v.well (answered.2 ∙ (let same : answered.0 ≡ Short (Refused device_code) = cc in ap answer_spelling same))) (λ is. cc),
        step.serves answered.0 there answered.1 (inl serves),
      )

  obey_exists : (k : ℕ) (wishes : List Wish) (asked : Asked) → IsMessage world k (Orders asked) → HasStep limit world (Deliver k wishes)
  obey_exists k wishes asked there =
      let v = asked_served asked (s.spelled k (Orders asked) there) (inr (s.true k (Orders asked) there)) in
      let answered = laws.fits limit world k asked v.bytes v.log small s (inr there) (inl v.serves) in
      let serves = subst (λ (b : List ℕ). Serves limit the_hub (request_spelling asked) b (hub_of world.tables v.log)) answered.2 v.serves in (
        told.Sent (length world.messages),
        with_message (with_log world v.log) (Replies answered.0),
        not_sent (with_log world v.log) (Replies answered.0) (λ q is. cc)
            (λ is. v.well (answered.2 ∙ (let same : answered.0 ≡ Short (Refused device_code) = cc in ap answer_spelling same))),
        step.obeys answered.0 there answered.1 (inl serves),
      )

  -- ---- an answer is heard

  answers_lawfully : AnswersLawfully IsWished (λ wishes. Unit {0})
  answers_lawfully p clash ready =
      (guarded (next_wish p) clash.conflict.kind clash.covers, wishes_left p, record { is = refl; left = refl }, tt, laws.lawful (next_wish p) clash)

  heard_well : (result : Result Told AnswerFault) (new : World) → IsOfAnswer result → IsRefused (heard result) new → ⊥
  heard_well (Ok what) new of is = is
  heard_well (Err (hearing.Memory count)) new of is = of
  heard_well (Err (hearing.Device count)) new of is = of
  heard_well (Err (hearing.BadEntry count)) new of is = is tt

  hear_there : (k r : ℕ) (wishes : List Wish) (answer : Answer) → IsMessage world k (Tells r answer) → IsInBytes answer → (before : Member) → IsMember world r before → HasStep limit world (Deliver k wishes)
  hear_there k r wishes answer there in_bytes before was =
      let p = s.placed r before was in
      let all = laws.answer before.tables answer p.contents before.position before.view wishes p.are in_bytes p.fits.version p.shown answers_lawfully tt in
      let shown = shown_view before.tables answer all.0 before.position before.view wishes all.1 all.2 all.3 all.4 all.6 in
      let after : Member = record { tables = all.1; position = all.2; view = shown.0 } in (
        heard all.0,
        with_member world r after,
        heard_well all.0 (with_member world r after) all.5,
        step.hears {result = all.0} there was (record { left = all.3; unused = all.4; answers = all.6; shows = shown.1 }),
      )

  hear_exists : (k r : ℕ) (wishes : List Wish) (answer : Answer) → IsMessage world k (Tells r answer) → IsInBytes answer → HasStep limit world (Deliver k wishes)
  hear_exists k r wishes answer there in_bytes =
      elim (there_or_not (slice_get world.members r)) [
        | inl none ↦ no_replica limit world (Deliver k wishes) r (ap step.receiver there) none
        | inr (before, was) ↦ hear_there k r wishes answer there in_bytes before was
      ]

  message_exists : (k : ℕ) (wishes : List Wish) (message : Sent) → IsMessage world k message → ((r : ℕ) (answer : Answer) → IsMessage world k (Tells r answer) → IsInBytes answer) → HasStep limit world (Deliver k wishes)
  message_exists k wishes (Asks r asked) there in_bytes = serve_exists k r wishes asked there
  message_exists k wishes (Orders asked) there in_bytes = obey_exists k wishes asked there
  message_exists k wishes (Replies answer) there in_bytes = (told.Heard Ignored, world, λ is. is, step.ignores there)
  message_exists k wishes (Tells r answer) there in_bytes = hear_exists k r wishes answer there (in_bytes r answer there)

  pub deliver_exists : (k : ℕ) (wishes : List Wish) → ((r : ℕ) (answer : Answer) → IsMessage world k (Tells r answer) → IsInBytes answer) → HasStep limit world (Deliver k wishes)
  deliver_exists k wishes in_bytes =
      elim (there_or_not (slice_get world.messages k)) [
        | inl none ↦ (told.NoMessage, world, λ is. is, step.no_message none)
        | inr (message, there) ↦ message_exists k wishes message there in_bytes
      ]

pub edit_has_step : EditHasResult → EditHasStep
edit_has_step law limit r asked world s ranged = edit_exists limit world law s r asked ranged

pub push_has_step : PushHasResult → PushHasStep
push_has_step law limit r world s named = push_exists limit world law s named r

pub resend_has_step : ResendHasStep
resend_has_step limit r world = resend_exists limit world r

pub ask_has_step : AskHasStep
ask_has_step limit r count world few = ask_exists limit world r count few

pub catch_has_step : CatchHasStep
catch_has_step limit r count world few = catch_exists limit world r count few

pub order_has_step : OrderHasStep
order_has_step limit wider world fits = order_exists limit world wider fits

pub restart_has_step : RestartHasStep
restart_has_step limit r world = restart_exists limit world r

pub deliver_has_step : Below → DeliverHasStep
deliver_has_step laws limit k wishes world small s in_bytes = deliver_exists laws limit small world s k wishes in_bytes
