-- The step of each event, from what its calls give.
use Rattle.std.proofs.Common.{◌≡◌, ◌≤◌, ◌<◌, ◌^◌, ◌∙◌, ◌++◌, ℕ, List, [], ◌∷◌, Option, Some, None, Result, Ok, Err, length, slice_get, slice_set, refl, sym, ap, subst, inl, inr, arith, length-append}
use Rattle.std.specs.Prelude.{IsSome, Vec}
use Rattle.std.specs.declared.alloc.Global.{Global}
use Rattle.cs_value.specs.Catalog.{AreTables}
use Rattle.cs_value.specs.declared.catalog.TableDef.{TableDef}
use Rattle.cs_value.specs.declared.edit.Edit.{Edit}
use Rattle.cs_conflict.specs.declared.wish.Wish.{Wish}
use Rattle.cs_hub.specs.Calls.{AnswersHub, StaysHub}
use Rattle.cs_hub.specs.Holding as hub
use Rattle.cs_hub.specs.Serves.{ServesIf}
use Rattle.cs_hub.specs.judgement.Judged.{hub_of}
use Rattle.cs_normal.specs.declared.normal.TableChanges.{TableChanges}
use Rattle.cs_opening.specs.declared.fault.OpenFault.{OpenFault}
use Rattle.cs_pending.specs.declared.fault.EditFault.{EditFault}
use Rattle.cs_pending.specs.position.Laws.{FitsPosition}
use Rattle.cs_pending.specs.position.Shows.{flown}
use Rattle.cs_pending.specs.declared.position.position.Position.{Position}
use Rattle.cs_replica.specs.Leaves.{CallLeaves, Counts}
use Rattle.cs_replica.specs.Step.{IsAnsweredTo, IsEditedBy}
use Rattle.cs_exchange.specs.declared.pulling.fault.AnswerFault.{AnswerFault}
use Rattle.cs_replica.specs.Answered.{IsAnsweredNext}
use Rattle.cs_exchange.specs.pushing.Pushes.{IsPushMadeIn, IsResendFault, pushed, request_of}
use Rattle.cs_exchange.specs.declared.pushing.fault.PushFault.{PushFault}
use Rattle.cs_replica.specs.Holding as replica
use Rattle.cs_replica.specs.declared.told.Told.TheVariants.{Ignored}
use Rattle.cs_replica.specs.declared.told.Told.{Told}
use Rattle.cs_store.specs.declared.log.entry.LogEntry.{LogEntry}
use Rattle.cs_store.specs.Calls.{MoreFailures}
use Rattle.cs_store.specs.Contents.{Contents}
use Rattle.cs_store.specs.declared.store.RowStore.{Ghosts}
use Rattle.cs_wire.specs.Answers.{FitsAnswer, answer_spelling}
use Rattle.cs_wire.specs.Laws.{OneToldAnswer}
use Rattle.cs_wire.specs.Requests.{Asked, asked_by_owned, request_spelling}
use Rattle.cs_wire.specs.declared.answer.Answer.{Answer}
use Rattle.cs_wire.specs.declared.request.RequestBuf.{RequestBuf}
use Rattle.cs_conflict.specs.wish_list.Wished.{IsWished}
use Rattle.cs_world.specs.Laws.{AnswersFit}
use Rattle.cs_world.specs.Steps as step
use Rattle.cs_world.specs.Steps.{Hears, Step, addressee, heard}
use Rattle.cs_world.specs.World.{Asks, IsMember, IsMessage, IsRequest, Member, Orders, Replies, Sent, Tells, World, with_log, with_member, with_message}
use Rattle.cs_world.specs.declared.event.Event.{Event}
use Rattle.cs_world.specs.declared.event.Event.TheVariants.{Deliver, MakePush, OnEdit, Resend, Restart}
use Rattle.cs_world.specs.declared.outcome.Outcome.{Outcome}
use Rattle.cs_world.specs.declared.outcome.Outcome.TheVariants as told
use Rattle.cs_world.specs.Holding.{AreHonest, Holding, Says, ShowsMember, ShowsWorld, StandsAt}
use Rattle.cs_world.specs.Fails.{SaysDevice}
use Rattle.cs_world.specs.Left as found
use Rattle.cs_world.specs.Left.{IsServedBy, WouldLeave, WouldServe}
use Rattle.cs_world.specs.Moves.{KeepsLeft, Moves}
use Rattle.cs_world.specs.Turns.{IsEditedTo, IsPushedTo, IsReloadedTo, Turns, member_of}
use Rattle.cs_world.specs.declared.letter.Letter.{Letter}
use Rattle.cs_world.specs.declared.letter.Letter.TheVariants as letter
use Rattle.cs_world.proofs.Came.{asks_for, tells_to}
use Rattle.cs_world.proofs.Counted.{counts_hub, counts_replica, counts_same}
use Rattle.cs_world.proofs.Left.{HubLeaves, left_as_it_was, left_of_hub, left_of_replica, next_of_answer}
use Rattle.cs_world.proofs.Found.{added, in_one_more, none_too, same_or_other, set_at, set_length, set_other, set_same, set_there, still}

-- ---- a request, of a replica or of none, as a letter, and its answer

abbrev pub letter_for : Option ℕ → Asked → Letter
letter_for (Some r) request = letter.Asks r request
letter_for None request = letter.Orders request

abbrev pub reply_for : Option ℕ → Vec ℕ Global → Letter
reply_for (Some r) answer = letter.Tells r answer
reply_for None answer = letter.Replies answer

module _ {S : Type 0} (g : Ghosts S) (limit : ℕ) where
  abbrev pub held : hub.Holding S → List (replica.Holding S) → List Letter → Holding S
  held h rs ls = record { hub = h; replicas = rs; letters = ls }

  -- ---- a message more

  pub says_more : (h : hub.Holding S) (replicas : List (replica.Holding S)) (letters : List Letter) (world : World) (one : Letter) (message : Sent) → ShowsWorld g (held h replicas letters) world → Says one message
      → ShowsWorld g (held h replicas (letters ++ one ∷ [])) (with_message world message)
  says_more h replicas letters world one message shows says =
      let n = length-append letters (one ∷ []) in
      let m = length-append world.messages (message ∷ []) in
      record {
        catalog = shows.catalog;
        log = shows.log;
        members_count = shows.members_count;
        members = shows.members;
        messages_count = omega (arith, n, m, shows.messages_count);
        messages = λ k other at. elim (in_one_more letters other one k at) [
          | inl old ↦
              let was = shows.messages k other old in
              (was.0, still world.messages (message ∷ []) was.0 k was.1, was.2)
          | inr new ↦
              let place : length world.messages ≡ k = sym shows.messages_count ∙ sym new.0 in
              (message, subst (λ (i : ℕ). slice_get (world.messages ++ message ∷ []) i ≡ Some message) place (added world.messages message), subst (λ (l : Letter). Says l message) (sym new.1) says)
        ];
      }

  module _ (h : hub.Holding S) (replicas : List (replica.Holding S)) (letters : List Letter) where
    -- ---- nothing changes

    pub stays : (event : Event) (outcome : Outcome) → (SaysDevice outcome → ⊥) → (ls : List Letter) → ls ≡ letters
        → ((world : World) → StandsAt g limit (held h replicas letters) world → Step limit world event outcome world)
        → Moves g limit (held h replicas letters) event outcome (held h replicas ls)
    stays event outcome quiet ls same steps =
        subst (λ (l : List Letter). Moves g limit (held h replicas letters) event outcome (held h replicas l)) (sym same) (record {
          was_honest = λ all. all;
          moved = λ all world stands. (world, steps world stands, stands.0);
          left = left_as_it_was g limit h replicas letters letters;
          counts = counts_same g (SaysDevice outcome) quiet h replicas letters letters;
        })

    pub no_room : (event : Event) (ls : List Letter) → ls ≡ letters → Moves g limit (held h replicas letters) event told.Memory (held h replicas ls)
    no_room event ls same = stays event told.Memory (λ none. none) ls same (λ world stands. step.no_memory)

    pub none_there : (event : Event) (r : ℕ) (ls : List Letter) → ls ≡ letters → length replicas ≤ r
        → ((world : World) → StandsAt g limit (held h replicas letters) world → addressee world event ≡ Some r)
        → Moves g limit (held h replicas letters) event told.NoReplica (held h replicas ls)
    none_there event r ls same few to =
        stays event told.NoReplica (λ none. none) ls same (λ world stands. step.no_replica (to world stands) (none_too replicas world.members r stands.0.members_count few))

    pub no_letter : (k : ℕ) (wishes : List Wish) (ls : List Letter) → ls ≡ letters → length letters ≤ k
        → Moves g limit (held h replicas letters) (Deliver k wishes) told.NoMessage (held h replicas ls)
    no_letter k wishes ls same few =
        stays (Deliver k wishes) told.NoMessage (λ none. none) ls same (λ world stands. step.no_message (none_too letters world.messages k stands.0.messages_count few))

    pub sends : (event : Event) (one : Letter) (outcome : Outcome) (ls all : List Letter) → ls ≡ letters → all ≡ ls ++ one ∷ [] → outcome ≡ told.Sent (length ls)
        → ((world : World) → StandsAt g limit (held h replicas letters) world
        → (message : Sent) × Says one message × Step limit world event (told.Sent (length world.messages)) (with_message world message))
        → Moves g limit (held h replicas letters) event outcome (held h replicas all)
    sends event one outcome ls all same is as_told steps =
        subst (λ (l : List Letter). Moves g limit (held h replicas letters) event outcome (held h replicas l)) (sym (is ∙ ap (λ (l : List Letter). l ++ one ∷ []) same)) (record {
          was_honest = λ good. record { hub = good.hub; replicas = good.replicas };
          moved = λ good world stands.
              let s = steps world stands in
              let number : told.Sent (length world.messages) ≡ outcome = ap (λ (n : ℕ). told.Sent n) (sym stands.0.messages_count ∙ ap (λ (l : List Letter). length l) (sym same)) ∙ sym as_told in (
                with_message world s.0,
                subst (λ (o : Outcome). Step limit world event o (with_message world s.0)) number s.2,
                says_more h replicas letters world one s.0 stands.0 s.1,
              );
          left = left_as_it_was g limit h replicas letters (letters ++ one ∷ []);
          counts = counts_same g (SaysDevice outcome) (λ says. subst SaysDevice as_told says) h replicas letters (letters ++ one ∷ []);
        })

    -- ---- an answer that no replica hears

    -- one for nobody
    replied : (world : World) (k : ℕ) (bytes : Vec ℕ Global) → (message : Sent) × IsMessage world k message × Says (letter.Replies bytes) message → (answer : Answer) × IsMessage world k (Replies answer)
    replied world k bytes (Asks q asked, there, says) = absurd says
    replied world k bytes (Orders asked, there, says) = absurd says
    replied world k bytes (Tells q answer, there, says) = absurd says
    replied world k bytes (Replies answer, there, says) = (answer, there)

    pub nobody_hears : (k : ℕ) (wishes : List Wish) (bytes : Vec ℕ Global) (ls : List Letter) → ls ≡ letters → slice_get letters k ≡ Some (letter.Replies bytes)
        → Moves g limit (held h replicas letters) (Deliver k wishes) (told.Heard Ignored) (held h replicas ls)
    nobody_hears k wishes bytes ls same at =
        stays (Deliver k wishes) (told.Heard Ignored) (λ none. none) ls same (λ world stands.
        step.ignores (replied world k bytes (stands.0.messages k (letter.Replies bytes) at)).1)

    -- what stands at a letter's number
    told_of : (world : World) (k r : ℕ) (bytes : Vec ℕ Global) → (message : Sent) × IsMessage world k message × Says (letter.Tells r bytes) message → (answer : Answer) × IsMessage world k (Tells r answer) × (bytes.items ≡ answer_spelling answer)
    told_of world k r bytes (Asks q asked, there, says) = absurd says
    told_of world k r bytes (Orders asked, there, says) = absurd says
    told_of world k r bytes (Replies answer, there, says) = absurd says
    told_of world k r bytes (Tells q answer, there, (who, spelled)) = (answer, there ∙ ap (λ (x : ℕ). Some (Tells x answer)) (sym who), spelled)

    pub none_told : (k r : ℕ) (wishes : List Wish) (bytes : Vec ℕ Global) (ls : List Letter) → ls ≡ letters → slice_get letters k ≡ Some (letter.Tells r bytes) → length replicas ≤ r
        → Moves g limit (held h replicas letters) (Deliver k wishes) told.NoReplica (held h replicas ls)
    none_told k r wishes bytes ls same at few =
        none_there (Deliver k wishes) r ls same few (λ world stands.
        let t = told_of world k r bytes (stands.0.messages k (letter.Tells r bytes) at) in
        ap step.receiver t.1)

    pub unread : (k r : ℕ) (wishes : List Wish) (bytes : Vec ℕ Global) (ls : List Letter) → ls ≡ letters → slice_get letters k ≡ Some (letter.Tells r bytes)
        → ((answer : Answer) → FitsAnswer answer → bytes.items ≡ answer_spelling answer → ⊥)
        → Moves g limit (held h replicas letters) (Deliver k wishes) told.NoMessage (held h replicas ls)
    unread k r wishes bytes ls same at never =
        stays (Deliver k wishes) told.NoMessage (λ none. none) ls same (λ world stands.
        let t = told_of world k r bytes (stands.0.messages k (letter.Tells r bytes) at) in
        absurd (never t.0 (stands.1.spelled k (Tells r t.0) t.1) t.2))

    -- ---- a replica turns

    module _ (r : ℕ) (old : replica.Holding S) (was : slice_get replicas r ≡ Some old) where
      -- it is shown, and placed
      pub member_there : (world : World) → StandsAt g limit (held h replicas letters) world
          → (before : Member) × IsMember world r before × ShowsMember g old before
      member_there world stands = stands.0.members r old was

      module _ (new : replica.Holding S) where
        pub honest_back : (ls : List Letter) → (g.honest new.store → g.honest old.store) → AreHonest g (held h (slice_set replicas r new) ls) → AreHonest g (held h replicas letters)
        honest_back ls back all = record {
          hub = all.hub;
          replicas = λ j one at. elim (same_or_other replicas r new j one at) [
            | inl is ↦
                let at_r : slice_get replicas r ≡ Some one = subst (λ (i : ℕ). slice_get replicas i ≡ Some one) is at in
                let same : one ≡ old = cc in
                subst (λ (x : replica.Holding S). g.honest x.store) (sym same) (back (all.replicas r new (set_there replicas r new old was)))
            | inr there ↦ all.replicas j one there
          ];
        }

        pub shows_turned : (world : World) (before after : Member) → ShowsWorld g (held h replicas letters) world → IsMember world r before → ShowsMember g new after
            → ShowsWorld g (held h (slice_set replicas r new) letters) (with_member world r after)
        shows_turned world before after shows is there = record {
          catalog = shows.catalog;
          log = shows.log;
          members_count = set_length replicas r new ∙ (shows.members_count ∙ sym (set_length world.members r after));
          members = λ j one at. elim (set_at replicas r new j one at) [
            | inl same ↦ (
              after,
              subst (λ (i : ℕ). slice_get (slice_set world.members r after) i ≡ Some after) (sym same.0) (set_there world.members r after before is),
              subst (λ (x : replica.Holding S). ShowsMember g x after) (sym same.1) there,
            )
            | inr other ↦
                let m = shows.members j one other.1 in
                (m.0, set_other world.members r after j m.0 other.0 m.1, m.2)
          ];
          messages_count = shows.messages_count;
          messages = shows.messages;
        }

        module _ (turn : Member → Member → Type 0) (turns : Turns g turn old new) (ls : List Letter) (all : AreHonest g (held h (slice_set replicas r new) ls)) (world : World) (stands : StandsAt g limit (held h replicas letters) world) where
          pub turned_there : (before : Member) × IsMember world r before × ((after : Member) × turn before after × ShowsMember g new after)
          turned_there =
              let m = member_there world stands in
              let placed = stands.1.placed r m.0 m.1 in
              let before : member_of old m.0.view ≡ m.0 =
              ap (λ (p : Position). record { tables = old.catalog; position = p; view = m.0.view }) m.2.position
              ∙ ap (λ (ts : List TableDef). record { tables = ts; position = m.0.position; view = m.0.view }) m.2.catalog in
              let t = turns.turned (all.replicas r new (set_there replicas r new old was)) (subst AreTables (sym m.2.catalog) placed.are) (subst FitsPosition (sym m.2.position) placed.fits) m.0.view m.2.shows in (
                m.0,
                m.1,
                (
                  member_of new t.0,
                  subst (λ (b : Member). turn b (member_of new t.0)) before t.3,
                  record { catalog = refl; position = refl; shows = t.1 },
                ),
              )

        -- what a commit that failed would have left is what that of an event would
        abbrev Would : (Position → Contents → Contents → Type 0) → Type 0
        Would failed =
            (world : World) → StandsAt g limit (held h replicas letters) world → (position : Position) (now left : Contents) → failed position now left
            → (event : Event) × WouldLeave world r new.catalog position now left event

        -- the replica is as it was
        pub unturned : (failed : Position → Contents → Contents → Type 0) → CallLeaves g failed old new → Would failed
            → (event : Event) (outcome : Outcome) → Counts g (SaysDevice outcome) old new → (ls : List Letter) → ls ≡ letters → (turn : Member → Member → Type 0) → Turns g turn old new
            → ((world : World) (before after : Member) → IsMember world r before → turn before after → (after ≡ before) × Step limit world event outcome world)
            → Moves g limit (held h replicas letters) event outcome (held h (slice_set replicas r new) ls)
        unturned failed leaves would event outcome counts ls same turn turns steps =
            subst (λ (l : List Letter). Moves g limit (held h replicas letters) event outcome (held h (slice_set replicas r new) l)) (sym same) (record {
              was_honest = honest_back letters turns.was_honest;
              moved = λ all world stands.
                  let t = turned_there turn turns letters all world stands in
                  let s = steps world t.0 t.2.0 t.1 t.2.1 in
                  let back : with_member world r t.2.0 ≡ world =
                  ap (λ (m : Member). with_member world r m) s.0 ∙ ap (λ (ms : List Member). record world { members = ms }) (set_same world.members r t.0 t.1) in (
                    world,
                    s.1,
                    subst (ShowsWorld g (held h (slice_set replicas r new) letters)) back (shows_turned world t.0 t.2.0 stands.0 t.1 t.2.2),
                  );
              left = left_of_replica g limit h replicas letters r old new was failed leaves would letters;
              counts = counts_replica g (SaysDevice outcome) (SaysDevice outcome) (λ says. says) h replicas r old new was counts letters letters;
            })

        -- the replica is another, and nothing is sent
        pub turned : (failed : Position → Contents → Contents → Type 0) → CallLeaves g failed old new → Would failed
            → (event : Event) (outcome : Outcome) → Counts g (SaysDevice outcome) old new → (ls : List Letter) → ls ≡ letters → (turn : Member → Member → Type 0) → Turns g turn old new
            → ((world : World) (before after : Member) → StandsAt g limit (held h replicas letters) world → IsMember world r before → turn before after → Step limit world event outcome (with_member world r after))
            → Moves g limit (held h replicas letters) event outcome (held h (slice_set replicas r new) ls)
        turned failed leaves would event outcome counts ls same turn turns steps =
            subst (λ (l : List Letter). Moves g limit (held h replicas letters) event outcome (held h (slice_set replicas r new) l)) (sym same) (record {
              was_honest = honest_back letters turns.was_honest;
              moved = λ all world stands.
                  let t = turned_there turn turns letters all world stands in (
                    with_member world r t.2.0,
                    steps world t.0 t.2.0 stands t.1 t.2.1,
                    shows_turned world t.0 t.2.0 stands.0 t.1 t.2.2,
                  );
              left = left_of_replica g limit h replicas letters r old new was failed leaves would letters;
              counts = counts_replica g (SaysDevice outcome) (SaysDevice outcome) (λ says. says) h replicas r old new was counts letters letters;
            })

        -- ---- each event

        by_edit : (asked : Edit) → new.catalog ≡ old.catalog → Would (IsEditedBy old.catalog asked)
        by_edit asked kept world stands position now left made = (OnEdit r asked, found.edited (rw kept made))

        by_push : new.catalog ≡ old.catalog → Would (IsPushMadeIn old.catalog)
        by_push kept world stands position now left made = (MakePush r, found.pushed (rw kept made))

        edit_step : (asked : Edit) (world : World) (before after : Member) → IsMember world r before → IsEditedTo asked (Ok tt) before after → Step limit world (OnEdit r asked) told.Done (with_member world r after)
        edit_step asked world before after is (count, next, left, same, made, shows) =
            subst (λ (m : Member). Step limit world (OnEdit r asked) told.Done (with_member world r m)) (sym same) (step.edits {left = left} count is made shows)

        pub edits : (asked : Edit) (ls : List Letter) → ls ≡ letters → new.catalog ≡ old.catalog → Counts g ⊥ old new → CallLeaves g (IsEditedBy old.catalog asked) old new → Turns g (IsEditedTo asked (Ok tt)) old new
            → Moves g limit (held h replicas letters) (OnEdit r asked) told.Done (held h (slice_set replicas r new) ls)
        edits asked ls same kept counts leaves turns =
            turned (IsEditedBy old.catalog asked) leaves (by_edit asked kept) (OnEdit r asked) told.Done counts ls same (IsEditedTo asked (Ok tt)) turns (λ world before after stands is t. edit_step asked world before after is t)

        pub edits_not : (asked : Edit) (fault : EditFault) (ls : List Letter) → ls ≡ letters → new.catalog ≡ old.catalog → Counts g (SaysDevice (told.NotEdited fault)) old new → CallLeaves g (IsEditedBy old.catalog asked) old new → Turns g (IsEditedTo asked (Err fault)) old new
            → Moves g limit (held h replicas letters) (OnEdit r asked) (told.NotEdited fault) (held h (slice_set replicas r new) ls)
        edits_not asked fault ls same kept counts leaves turns =
            unturned (IsEditedBy old.catalog asked) leaves (by_edit asked kept) (OnEdit r asked) (told.NotEdited fault) counts ls same (IsEditedTo asked (Err fault)) turns (λ world before after is t. (t.0, step.edits_not is t.1))

        pub pushes_not : (fault : PushFault) (ls : List Letter) → ls ≡ letters → new.catalog ≡ old.catalog → Counts g (SaysDevice (told.NotPushed fault)) old new → CallLeaves g (IsPushMadeIn old.catalog) old new → Turns g (IsPushedTo (Err fault)) old new
            → Moves g limit (held h replicas letters) (MakePush r) (told.NotPushed fault) (held h (slice_set replicas r new) ls)
        pushes_not fault ls same kept counts leaves turns =
            unturned (IsPushMadeIn old.catalog) leaves (by_push kept) (MakePush r) (told.NotPushed fault) counts ls same (IsPushedTo (Err fault)) turns (λ world before after is t. (t.0, step.pushes_not is t.1))

        pub restarts : (ls : List Letter) → ls ≡ letters → Counts g ⊥ old new → CallLeaves g (λ position now left. ⊥) old new → Turns g (IsReloadedTo (Ok tt)) old new
            → Moves g limit (held h replicas letters) (Restart r) told.Done (held h (slice_set replicas r new) ls)
        restarts ls same counts leaves turns =
            unturned (λ position now left. ⊥) leaves (λ world stands position now left none. absurd none) (Restart r) told.Done counts ls same (IsReloadedTo (Ok tt)) turns (λ world before after is t. (t.0, step.restarts is))

        pub restarts_not : (fault : OpenFault) (ls : List Letter) → ls ≡ letters → Counts g (SaysDevice (told.NotReloaded fault)) old new → CallLeaves g (λ position now left. ⊥) old new → Turns g (IsReloadedTo (Err fault)) old new
            → Moves g limit (held h replicas letters) (Restart r) (told.NotReloaded fault) (held h (slice_set replicas r new) ls)
        restarts_not fault ls same counts leaves turns =
            unturned (λ position now left. ⊥) leaves (λ world stands position now left none. absurd none) (Restart r) (told.NotReloaded fault) counts ls same (IsReloadedTo (Err fault)) turns (λ world before after is t. (t.0, step.restarts_not is t.1))

        -- a push is made
        pub pushes : (request : RequestBuf) (asked : Asked) (outcome : Outcome) (ls all : List Letter) → asked ≡ asked_by_owned request → ls ≡ letters → all ≡ ls ++ letter.Asks r asked ∷ [] → outcome ≡ told.Sent (length ls)
            → new.catalog ≡ old.catalog → Counts g ⊥ old new → CallLeaves g (IsPushMadeIn old.catalog) old new → Turns g (IsPushedTo (Ok request)) old new
            → Moves g limit (held h replicas letters) (MakePush r) outcome (held h (slice_set replicas r new) all)
        pushes request asked outcome ls all asks same is as_told kept counts leaves turns =
            subst (λ (l : List Letter). Moves g limit (held h replicas letters) (MakePush r) outcome (held h (slice_set replicas r new) l)) (sym (is ∙ ap (λ (l : List Letter). l ++ letter.Asks r asked ∷ []) same)) (record {
              was_honest = honest_back (letters ++ letter.Asks r asked ∷ []) turns.was_honest;
              moved = λ good world stands.
                  let t = turned_there (IsPushedTo (Ok request)) turns (letters ++ letter.Asks r asked ∷ []) good world stands in
                  let p = t.2.1 in
                  let message : Sent = Asks r (request_of (pushed t.0.position p.0) p.0) in
                  let number : told.Sent (length world.messages) ≡ outcome = ap (λ (n : ℕ). told.Sent n) (sym stands.0.messages_count ∙ ap (λ (l : List Letter). length l) (sym same)) ∙ sym as_told in
                  let made : Step limit world (MakePush r) (told.Sent (length world.messages)) (with_message (with_member world r t.2.0) message) =
                  subst (λ (m : Member). Step limit world (MakePush r) (told.Sent (length world.messages)) (with_message (with_member world r m) message)) (sym p.2) (step.pushes {left = p.1} t.1 p.3) in (
                    with_message (with_member world r t.2.0) message,
                    subst (λ (o : Outcome). Step limit world (MakePush r) o (with_message (with_member world r t.2.0) message)) number made,
                    shown_and_said world t.0 t.2.0 message stands.0 t.1 t.2.2 (asks ∙ p.4),
                  );
              left = left_of_replica g limit h replicas letters r old new was (IsPushMadeIn old.catalog) leaves (by_push kept) (letters ++ letter.Asks r asked ∷ []);
              counts = counts_replica g (SaysDevice outcome) ⊥ (λ says. subst SaysDevice as_told says) h replicas r old new was counts letters (letters ++ letter.Asks r asked ∷ []);
            })
          where
            shown_and_said : (world : World) (before after : Member) (message : Sent) → ShowsWorld g (held h replicas letters) world → IsMember world r before → ShowsMember g new after
                → {its : Asked} → asked ≡ its → ShowsWorld g (held h (slice_set replicas r new) (letters ++ letter.Asks r asked ∷ [])) (with_message (with_member world r after) (Asks r its))
            shown_and_said world before after message shows at there {its = its} same_asked =
                says_more h (slice_set replicas r new) letters (with_member world r after) (letter.Asks r asked) (Asks r its) (shows_turned world before after shows at there) (refl, same_asked)

        -- an answer is told
        pub hears : (k : ℕ) (wishes : List Wish) (bytes : Vec ℕ Global) (answer : Answer) (result : Result Told AnswerFault) (ls : List Letter) → ls ≡ letters
            → slice_get letters k ≡ Some (letter.Tells r bytes) → FitsAnswer answer → bytes.items ≡ answer_spelling answer
            → OneToldAnswer
            → Counts g (SaysDevice (heard result)) old new
            → CallLeaves g (IsAnsweredNext IsWished new.catalog answer) old new
            → Turns g (IsAnsweredTo IsWished answer wishes result) old new
            → Moves g limit (held h replicas letters) (Deliver k wishes) (heard result) (held h (slice_set replicas r new) ls)
        hears k wishes bytes answer result ls same at fits spelled one counts leaves turns =
            turned (IsAnsweredNext IsWished new.catalog answer) leaves by_answer (Deliver k wishes) (heard result) counts ls same (IsAnsweredTo IsWished answer wishes result) turns
            (λ world before after stands is t. told_step world before after stands is t (told_of world k r bytes (stands.0.messages k (letter.Tells r bytes) at)))
          where
            message_is : (world : World) → StandsAt g limit (held h replicas letters) world → (its : Answer) × IsMessage world k (Tells r its) × (bytes.items ≡ answer_spelling its) → IsMessage world k (Tells r answer)
            message_is world stands (its, there, its_spelled) =
                let both : Ok its ≡ Ok answer = one bytes.items (Ok its) (Ok answer) (stands.1.spelled k (Tells r its) there, its_spelled) (fits, spelled) in
                let same_answer : its ≡ answer = cc in
                there ∙ ap (λ (a : Answer). Some (Tells r a)) same_answer

            by_answer : Would (IsAnsweredNext IsWished new.catalog answer)
            by_answer world stands position now left next =
                next_of_answer world k r new.catalog answer position now left (message_is world stands (told_of world k r bytes (stands.0.messages k (letter.Tells r bytes) at))) next

            told_step : (world : World) (before after : Member) → StandsAt g limit (held h replicas letters) world → IsMember world r before → Hears before answer wishes result after
                → (its : Answer) × IsMessage world k (Tells r its) × (bytes.items ≡ answer_spelling its) → Step limit world (Deliver k wishes) (heard result) (with_member world r after)
            told_step world before after stands is t (its, there, its_spelled) =
                step.hears (message_is world stands (its, there, its_spelled)) is t

    -- ---- requests

    pub asks : (event : Event) (what : Position → Asked) (r : ℕ) (old : replica.Holding S) (asked : Asked) (outcome : Outcome) (ls all : List Letter) → slice_get replicas r ≡ Some old → asked ≡ what old.position
        → ls ≡ letters → all ≡ ls ++ letter.Asks r asked ∷ [] → outcome ≡ told.Sent (length ls)
        → ((world : World) (before : Member) → IsMember world r before → Step limit world event (told.Sent (length world.messages)) (with_message world (Asks r (what before.position))))
        → Moves g limit (held h replicas letters) event outcome (held h replicas all)
    asks event what r old asked outcome ls all was is same is_all as_told steps =
        sends event (letter.Asks r asked) outcome ls all same is_all as_told (λ world stands.
        let m = member_there r old was world stands in
        (Asks r (what m.0.position), (refl, is ∙ ap what m.2.position), steps world m.0 m.1))

    resent : (position : Position) (flight : Option (List TableChanges)) → position.flight ≡ flight → IsSome flight → (changes : List TableChanges) × (position.flight ≡ Some changes) × (request_of position (flown position.flight) ≡ request_of position changes)
    resent position None is some = let e = some in absurd (cc)
    resent position (Some changes) is some = (changes, is, ap (λ (f : Option (List TableChanges)). request_of position (flown f)) is)

    pub resends : (r : ℕ) (old : replica.Holding S) (asked : Asked) (outcome : Outcome) (ls all : List Letter) → slice_get replicas r ≡ Some old → IsSome old.position.flight
        → asked ≡ request_of old.position (flown old.position.flight) → ls ≡ letters → all ≡ ls ++ letter.Asks r asked ∷ [] → outcome ≡ told.Sent (length ls)
        → Moves g limit (held h replicas letters) (Resend r) outcome (held h replicas all)
    resends r old asked outcome ls all was some is same is_all as_told =
        sends (Resend r) (letter.Asks r asked) outcome ls all same is_all as_told (λ world stands.
        let m = member_there r old was world stands in
        let f = resent old.position old.position.flight refl some in
        let flight : m.0.position.flight ≡ Some f.0 = ap (λ (p : Position). p.flight) (sym m.2.position) ∙ f.1 in (
          Asks r (request_of m.0.position f.0),
          (refl, is ∙ (f.2 ∙ ap (λ (p : Position). request_of p f.0) m.2.position)),
          step.resends m.1 flight,
        ))

    pub resends_not : (r : ℕ) (old : replica.Holding S) (fault : PushFault) (ls : List Letter) → slice_get replicas r ≡ Some old → IsResendFault fault old.position → ls ≡ letters
        → Moves g limit (held h replicas letters) (Resend r) (told.NotPushed fault) (held h replicas ls)
    resends_not r old fault ls was why same =
        stays (Resend r) (told.NotPushed fault) (λ device. subst (λ (f : PushFault). IsResendFault f old.position) device why) ls same (λ world stands.
        let m = member_there r old was world stands in
        step.resends_not m.1 (subst (IsResendFault fault) m.2.position why))

    -- ---- the hub serves

    module _ (small : limit < 2 ^ 32) (fit : AnswersFit) (k : ℕ) (to : Option ℕ) (request : Asked) (at : slice_get letters k ≡ Some (letter_for to request)) where
      weaker : (device : Type 0) (old new : _) (asked answer : List ℕ) → ServesIf device limit old asked answer new → ServesIf (Unit {0}) limit old asked answer new
      weaker device old new asked answer (inl serves) = inl serves
      weaker device old new asked answer (inr (failed_so, is, same)) = inr (tt, is, same)

      says_so : (who : Option ℕ) (message : Sent) → Says (letter_for who request) message → message ≡ asks_for who request
      says_so (Some r) (Asks q asked) (same, is) = ap (λ (x : ℕ). Asks x asked) (sym same) ∙ ap (λ (a : Asked). Asks r a) (sym is)
      says_so (Some r) (Tells q answer) says = absurd says
      says_so (Some r) (Orders asked) says = absurd says
      says_so (Some r) (Replies answer) says = absurd says
      says_so None (Asks q asked) says = absurd says
      says_so None (Tells q answer) says = absurd says
      says_so None (Orders asked) is = ap (λ (a : Asked). Orders a) (sym is)
      says_so None (Replies answer) says = absurd says

      what_was_asked : (world : World) → (message : Sent) × IsMessage world k message × Says (letter_for to request) message → IsMessage world k (asks_for to request)
      what_was_asked world (message, there, says) = there ∙ ap (λ (m : Sent). Some m) (says_so to message says)

      is_request : (world : World) (who : Option ℕ) → IsMessage world k (asks_for who request) → IsRequest world k request
      is_request world (Some r) there = inl (r, there)
      is_request world None there = inr there

      served_so : (world : World) (wishes : List Wish) (answer : Answer) (log : List LogEntry) (who : Option ℕ) → IsMessage world k (asks_for who request) → FitsAnswer answer
          → ServesIf (Unit {0}) limit (hub_of world.tables world.log) (request_spelling request) (answer_spelling answer) (hub_of world.tables log)
          → Step limit world (Deliver k wishes) (told.Sent (length world.messages)) (with_message (with_log world log) (tells_to who answer))
      served_so world wishes answer log (Some r) there fits serves = step.serves answer there fits serves
      served_so world wishes answer log None there fits serves = step.obeys answer there fits serves

      tells_so : (who : Option ℕ) (bytes : Vec ℕ Global) (answer : Answer) → bytes.items ≡ answer_spelling answer → Says (reply_for who bytes) (tells_to who answer)
      tells_so (Some r) bytes answer is = (refl, is)
      tells_so None bytes answer is = is

      would_serve : (world : World) → StandsAt g limit (held h replicas letters) world → (bytes : List ℕ) → bytes ≡ request_spelling request → (now left : Contents) → IsServedBy limit h.catalog bytes now left → WouldServe limit world now left
      would_serve world stands bytes spelled now left served = record {
        message = k;
        asked = request;
        sent = is_request world to (what_was_asked world (stands.0.messages k (letter_for to request) at));
        served = subst (λ (b : List ℕ). IsServedBy limit world.tables b now left) spelled (subst (λ (t : List TableDef). IsServedBy limit t bytes now left) stands.0.catalog served);
      }

      hub_left : (bytes : List ℕ) → bytes ≡ request_spelling request → (new : hub.Holding S) → HubLeaves g limit bytes h new → (ls : List Letter) → KeepsLeft g limit (held h replicas letters) (held new replicas ls)
      hub_left bytes spelled new leaves =
          left_of_hub g limit h replicas letters new (λ world all stands left may.
          elim (leaves all.hub world.log stands.0.log left may) [
            | inl now ↦ inl now
            | inr (inl before) ↦ inr (inl before)
            | inr (inr served) ↦ inr (inr (would_serve world stands bytes spelled (g.contents new.store) left served))
          ])

      pub serves : (wishes : List Wish) (bytes : List ℕ) (answer : Vec ℕ Global) (new : hub.Holding S) (outcome : Outcome) (ls all : List Letter) → bytes ≡ request_spelling request
          → AnswersHub g limit h bytes answer.items new
          → HubLeaves g limit bytes h new → g.failed h.store ≤ g.failed new.store
          → ls ≡ letters → all ≡ ls ++ reply_for to answer ∷ [] → outcome ≡ told.Sent (length ls)
          → Moves g limit (held h replicas letters) (Deliver k wishes) outcome (held new replicas all)
      serves wishes bytes answer new outcome ls all spelled answers leaves later same is_all as_told =
          subst (λ (l : List Letter). Moves g limit (held h replicas letters) (Deliver k wishes) outcome (held new replicas l)) (sym (is_all ∙ ap (λ (l : List Letter). l ++ reply_for to answer ∷ []) same)) (record {
            was_honest = λ good. record { hub = answers.was_honest good.hub; replicas = good.replicas };
            moved = λ good world stands.
                let there = what_was_asked world (stands.0.messages k (letter_for to request) at) in
                let s = answers.answered good.hub world.log stands.0.log in
                let by_bytes = weaker (MoreFailures (g.failed h.store) (g.failed new.store)) (hub_of h.catalog world.log) (hub_of h.catalog s.0) bytes answer.items s.1 in
                let by_tables = subst (λ (t : List TableDef). ServesIf (Unit {0}) limit (hub_of t world.log) bytes answer.items (hub_of t s.0)) stands.0.catalog by_bytes in
                let by_asked = subst (λ (b : List ℕ). ServesIf (Unit {0}) limit (hub_of world.tables world.log) b answer.items (hub_of world.tables s.0)) spelled by_tables in
                let f = fit limit world k request answer.items s.0 small stands.1 (is_request world to there) by_asked in
                let number : told.Sent (length world.messages) ≡ outcome = ap (λ (n : ℕ). told.Sent n) (sym stands.0.messages_count ∙ ap (λ (l : List Letter). length l) (sym same)) ∙ sym as_told in
                let next : World = with_log world s.0 in
                let shown : ShowsWorld g (held new replicas letters) next = record {
                  catalog = answers.catalog ∙ stands.0.catalog;
                  log = s.2;
                  members_count = stands.0.members_count;
                  members = stands.0.members;
                  messages_count = stands.0.messages_count;
                  messages = stands.0.messages;
                } in (
                  with_message next (tells_to to f.0),
                  subst (λ (o : Outcome). Step limit world (Deliver k wishes) o (with_message next (tells_to to f.0))) number
                      (served_so world wishes f.0 s.0 to there f.1 (subst (λ (b : List ℕ). ServesIf (Unit {0}) limit (hub_of world.tables world.log) (request_spelling request) b (hub_of world.tables s.0)) f.2 by_asked)),
                  says_more new replicas letters next (reply_for to answer) (tells_to to f.0) shown (tells_so to answer f.0 f.2),
                );
            left = hub_left bytes spelled new leaves (letters ++ reply_for to answer ∷ []);
            counts = counts_hub g (SaysDevice outcome) h new (λ says. absurd (subst SaysDevice as_told says)) replicas letters (letters ++ reply_for to answer ∷ []) later;
          })

      pub serves_not : (wishes : List Wish) (bytes : List ℕ) (new : hub.Holding S) (ls : List Letter) → bytes ≡ request_spelling request → StaysHub g h new → HubLeaves g limit bytes h new → g.failed h.store ≤ g.failed new.store → ls ≡ letters
          → Moves g limit (held h replicas letters) (Deliver k wishes) told.Memory (held new replicas ls)
      serves_not wishes bytes new ls spelled kept leaves later same =
          subst (λ (l : List Letter). Moves g limit (held h replicas letters) (Deliver k wishes) told.Memory (held new replicas l)) (sym same) (record {
            was_honest = λ good. record { hub = kept.was_honest good.hub; replicas = good.replicas };
            moved = λ good world stands. (
              world,
              step.no_memory,
              record {
                catalog = kept.catalog ∙ stands.0.catalog;
                log = still_shown world good.hub stands.0.log;
                members_count = stands.0.members_count;
                members = stands.0.members;
                messages_count = stands.0.messages_count;
                messages = stands.0.messages;
              },
            );
            left = hub_left bytes spelled new leaves letters;
            counts = counts_hub g ⊥ h new (λ none. absurd none) replicas letters letters later;
          })
        where
          still_shown : (world : World) → g.honest new.store → hub.Shows g.contents h world.log → hub.Shows g.contents new world.log
          still_shown world good (shows, count, widens) = (rw (kept.catalog, kept.same good) shows, kept.newest ∙ count, kept.widens ∙ widens)
