-- A world goes on to another: its log and its messages grow, and what was so stays so.
use Rattle.std.proofs.Common.{◌≡◌, ◌≢◌, ◌≤◌, ◌+◌, ◌∙◌, ◌++◌, ℕ, List, [], ◌∷◌, Some, length, slice_get, slice_set, refl, sym, ap, subst, inl, inr, arith, append-nil, length-append}
use Rattle.std.specs.Prelude.{◌⊎◌}
use Rattle.cs_value.specs.declared.catalog.TableDef.{TableDef}
use Rattle.cs_store.specs.log.Laws.{LongerLog}
use Rattle.cs_store.specs.log.Log.{IsLog, catalog_at, tables_at}
use Rattle.cs_store.specs.declared.log.body.Body.{Body}
use Rattle.cs_store.specs.declared.log.body.Body.TheVariants.{Changes, Widen}
use Rattle.cs_store.specs.declared.log.entry.LogEntry.{LogEntry}
use Rattle.cs_normal.specs.Normal.{normal_spelling}
use Rattle.cs_normal.specs.State.{IsDefinedOn, State}
use Rattle.cs_normal.specs.declared.normal.TableChanges.{TableChanges}
use Rattle.cs_store.specs.log.Stored.{AreChangesOf}
use Rattle.cs_hub.specs.catching.Laws.{OthersAsLogGrows}
use Rattle.cs_hub.specs.catching.Told.{AreOthersAsOne}
use Rattle.cs_replica.specs.Laws.{StandsLonger}
use Rattle.cs_wire.specs.Requests.{Asked, AsksCatch, AsksPull, AsksPush, AsksWiden}
use Rattle.cs_wire.specs.declared.answer.Answer.{Answer}
use Rattle.cs_wire.specs.declared.answer.Answer.TheVariants.{Short, Entries, Merged}
use Rattle.cs_wire.specs.declared.push_head.PushHead.{PushHead}
use Rattle.cs_wire.specs.declared.short_answer.ShortAnswer.TheVariants.{Accepted, Stale, Refused}
use Rattle.cs_world.specs.Sound.{AreStored, IsAcceptedIn, IsPlaced, IsSound, IsTrue, IsTrueAnswer, IsTruePush, WasAsked, WasOffered, WasOfferedAt, WasOrdered}
use Rattle.cs_world.specs.World.{Asks, FitsSent, IsMember, Member, Orders, Replies, Sent, Tells, World, with_member, with_message}
use Rattle.cs_world.proofs.Found.{in_append, in_one, nowhere, set_at, still}

-- this was asked by one of these messages
abbrev pub AskedIn : List Sent → Asked → Type 0
AskedIn messages asked = (k : ℕ) × (r : ℕ) × (slice_get messages k ≡ Some (Asks r asked))

pub record Goes (w w' : World) (sent : List Sent) : Type 0 where
  pub more : List LogEntry
  pub tables_same : w'.tables ≡ w.tables
  pub log_is : w'.log ≡ w.log ++ more
  pub messages_are : w'.messages ≡ w.messages ++ sent
  pub counts : (r : ℕ) (m' : Member) → IsMember w' r m' → (m : Member) × IsMember w r m × (m.position.number ≤ m'.position.number)

asked_split : (xs ys : List Sent) (asked : Asked) → AskedIn (xs ++ ys) asked → AskedIn xs asked ⊎ AskedIn ys asked
asked_split xs ys asked there =
    elim (in_append xs ys (Asks there.1 asked) there.0 there.2) [
      | inl at ↦ inl (there.0, there.1, at)
      | inr at ↦ inr (at.0, there.1, at.2)
    ]

pub asked_one : (message : Sent) (asked : Asked) → AskedIn (message ∷ []) asked → (r : ℕ) × (message ≡ Asks r asked)
asked_one message asked there = (there.1, sym (in_one (Asks there.1 asked) message there.0 there.2).1)

pub asked_none : (asked : Asked) → AskedIn [] asked → ⊥
asked_none asked there = nowhere (Asks there.1 asked) there.0 there.2

-- a push is one push
abbrev pub AreOne : PushHead → PushHead → List ℕ → List ℕ → Type 0
AreOne head other changeset its = (head.base ≡ other.base) × (changeset ≡ its)

module _ (longer : LongerLog) (stands : StandsLonger) (others : OthersAsLogGrows) where
  module _ (w w' : World) (sent : List Sent) (goes : Goes w w' sent) where
    pub asked_on : (asked : Asked) → WasAsked w asked → WasAsked w' asked
    asked_on asked there =
        (there.0, there.1, rw goes.messages_are (still w.messages sent (Asks there.1 asked) there.0 there.2))

    ordered_on : (asked : Asked) → WasOrdered w asked → WasOrdered w' asked
    ordered_on asked there = (there.0, rw goes.messages_are (still w.messages sent (Orders asked) there.0 there.1))

    offered_so : (head : PushHead) (body : Body) → WasOffered w head body → WasOffered w' head body
    offered_so head (Changes changes) was = asked_on (AsksPush head (normal_spelling changes)) was
    offered_so head (Widen table width) was = (was.0, ordered_on (AsksWiden head.number head.base width table) was.1)

    pub offered_on : (at : ℕ) (entry : LogEntry) → WasOfferedAt w at entry → WasOfferedAt w' at entry
    offered_on at entry was = offered_so (record { origin = entry.origin; number = entry.number; base = at }) entry.body was

    pub entry_on : (entry : LogEntry) (at : ℕ) → slice_get w.log at ≡ Some entry → slice_get w'.log at ≡ Some entry
    entry_on entry at there = rw goes.log_is (still w.log goes.more entry at there)

    tables_on : (version : ℕ) → version ≤ length w.log → tables_at w'.log version ≡ tables_at w.log version
    tables_on version within =
        ap (λ (l : List LogEntry). tables_at l version) goes.log_is ∙ (longer w.tables w.log goes.more version within).1

    catalog_on : (version : ℕ) → version ≤ length w.log → catalog_at w'.tables w'.log version ≡ catalog_at w.tables w.log version
    catalog_on version within =
        ap (λ (ts : List TableDef). catalog_at ts w'.log version) goes.tables_same
        ∙ (ap (λ (l : List LogEntry). catalog_at w.tables l version) goes.log_is ∙ (longer w.tables w.log goes.more version within).0)

    pub within_on : (version : ℕ) → version ≤ length w.log → version ≤ length w'.log
    within_on version within = let n = length-append w.log goes.more in rw goes.log_is (omega (arith, within, n))

    defined_on : (changes : List TableChanges) (version : ℕ) → version ≤ length w.log → IsDefinedOn (catalog_at w.tables w.log version) changes (tables_at w.log version) → IsDefinedOn (catalog_at w'.tables w'.log version) changes (tables_at w'.log version)
    defined_on changes version within defined =
        subst (λ (ts : List TableDef). IsDefinedOn ts changes (tables_at w'.log version)) (sym (catalog_on version within))
        (subst (λ (s : State). IsDefinedOn (catalog_at w.tables w.log version) changes s) (sym (tables_on version within)) defined)

    push_on : (head : PushHead) (changeset : List ℕ) → IsTruePush w head changeset → IsTruePush w' head changeset
    push_on head changeset t = record {
      changes = t.changes;
      spelled = t.spelled;
      of_tables = subst (λ (ts : List TableDef). AreChangesOf ts t.changes) (sym (catalog_on head.base t.within)) t.of_tables;
      size = t.size;
      within = within_on head.base t.within;
      defined = defined_on t.changes head.base t.within t.defined;
      counted = λ m at. let old = goes.counts head.origin m at in omega (arith, t.counted old.0 old.1, old.2);
    }

    accepted_on : (origin number version : ℕ) → IsAcceptedIn w.log origin number version → IsAcceptedIn w'.log origin number version
    accepted_on origin number version a = record {
      at = a.at;
      entry = a.entry;
      next = a.next;
      there = entry_on a.entry a.at a.there;
      by = a.by;
      numbered = a.numbered;
    }

    -- what an answer says stays so
    answer_on : (answer : Answer) → IsTrueAnswer w answer → IsTrueAnswer w' answer
    answer_on (Short (Accepted origin number version)) t = accepted_on origin number version t
    answer_on (Short (Stale newest)) t = tt
    answer_on (Short (Refused code)) t = t
    answer_on (Entries first entries) t = λ at told there.
        let e = t at told there in
        (e.0, entry_on e.0 (first + at) e.1, e.2)
    answer_on (Merged origin first next changeset) t =
        let first_within : first ≤ length w.log = (let r = t.rising in let n = t.within in omega (arith, r, n)) in
        subst (λ (ts : List TableDef). AreOthersAsOne ts w'.log origin first next changeset) (sym (catalog_on first first_within))
        (rw goes.log_is (others (catalog_at w.tables w.log first) w.log goes.more origin first next changeset t))

    -- and what a message says
    pub true_on : (message : Sent) → IsTrue w message → IsTrue w' message
    true_on (Asks r (AsksPush head changeset)) t = push_on head changeset t
    true_on (Asks r (AsksPull first count)) t = tt
    true_on (Asks r (AsksCatch origin first count)) t = tt
    true_on (Asks r (AsksWiden number base width table)) t = t
    true_on (Tells r answer) t = answer_on answer t
    true_on (Orders asked) t = t
    true_on (Replies answer) t = answer_on answer t

    -- a replica that stays is placed as it was
    pub placed_on : (r : ℕ) (m : Member) → IsPlaced w r m → IsPlaced w' r m
    placed_on r m p = record {
      id = p.id;
      small = p.small;
      fits = p.fits;
      contents = p.contents;
      tables = p.tables ∙ sym (catalog_on m.position.version p.stands.within);
      are = p.are;
      shown = p.shown;
      stands = rw goes.log_is (stands w.log goes.more m.position m.view p.stands);
      sent = λ changes flight. asked_on _ (p.sent changes flight);
    }

    -- the world goes on, and what is new is as it should be
    pub next_sound : (limit : ℕ) → IsSound limit w
        → IsLog w'.tables w'.log
        → AreStored w'.tables w'.log
        → length w'.log ≤ limit
        → ((r : ℕ) (m : Member) → IsMember w' r m → IsPlaced w' r m)
        → ((message : Sent) (k : ℕ) → slice_get sent k ≡ Some message → FitsSent message × IsTrue w' message)
        → ((head other : PushHead) (changeset its : List ℕ) → AskedIn sent (AsksPush head changeset) → WasAsked w' (AsksPush other its) → head.origin ≡ other.origin → head.number ≡ other.number → AreOne head other changeset its)
        → ((at : ℕ) (entry : LogEntry) → slice_get w'.log at ≡ Some entry → WasOfferedAt w' at entry)
        → IsSound limit w'
    next_sound limit s is_log entries short placed new_true new_once offered = record {
      tables = rw goes.tables_same s.tables;
      log = is_log;
      entries = entries;
      short = short;
      placed = placed;
      spelled = λ k message at.
          elim (in_append w.messages sent message k (subst (λ (ms : List Sent). slice_get ms k ≡ Some message) goes.messages_are at)) [
            | inl h ↦ s.spelled k message h
            | inr h ↦ (new_true message h.0 h.2).0
          ];
      true = λ k message at.
          elim (in_append w.messages sent message k (subst (λ (ms : List Sent). slice_get ms k ≡ Some message) goes.messages_are at)) [
            | inl h ↦ true_on message (s.true k message h)
            | inr h ↦ (new_true message h.0 h.2).1
          ];
      once = λ head other changeset its one two origins numbers.
          elim (asked_split w.messages sent (AsksPush head changeset) (subst (λ (ms : List Sent). AskedIn ms (AsksPush head changeset)) goes.messages_are one)) [
            | inr h ↦ new_once head other changeset its h two origins numbers
            | inl h ↦
                elim (asked_split w.messages sent (AsksPush other its) (subst (λ (ms : List Sent). AskedIn ms (AsksPush other its)) goes.messages_are two)) [
                  | inl g ↦ s.once head other changeset its h g origins numbers
                  | inr g ↦ let back = new_once other head its changeset g one (sym origins) (sym numbers) in (sym back.0, sym back.1)
                ]
          ];
      offered = offered;
    }

  -- ---- a message is sent, and nothing else happens

  goes_said : (w : World) (message : Sent) → Goes w (with_message w message) (message ∷ [])
  goes_said w message = record {
    more = [];
    tables_same = refl;
    log_is = sym (append-nil w.log);
    messages_are = refl;
    counts = λ r m at. (m, at, omega arith);
  }

  pub said_sound : (limit : ℕ) (w : World) (message : Sent) → IsSound limit w → FitsSent message → IsTrue w message
      → ((head other : PushHead) (changeset its : List ℕ) → AskedIn (message ∷ []) (AsksPush head changeset) → WasAsked (with_message w message) (AsksPush other its) → head.origin ≡ other.origin → head.number ≡ other.number → AreOne head other changeset its)
      → IsSound limit (with_message w message)
  said_sound limit w message s fits t once =
      let goes = goes_said w message in
      next_sound w (with_message w message) (message ∷ []) goes limit s s.log s.entries s.short
      (λ r m at. placed_on w (with_message w message) (message ∷ []) goes r m (s.placed r m at))
      (λ m k at. let is = (in_one m message k at).1 in (rw is fits, rw is (true_on w (with_message w message) (message ∷ []) goes message t)))
      once
      (λ at entry there. offered_on w (with_message w message) (message ∷ []) goes at entry (s.offered at entry there))

  -- what is no push is no second push
  pub no_push : (w' : World) (message : Sent) → ((r : ℕ) (head : PushHead) (changeset : List ℕ) → message ≢ Asks r (AsksPush head changeset))
      → (head other : PushHead) (changeset its : List ℕ) → AskedIn (message ∷ []) (AsksPush head changeset) → WasAsked w' (AsksPush other its) → head.origin ≡ other.origin → head.number ≡ other.number → AreOne head other changeset its
  no_push w' message none head other changeset its one two origins numbers =
      let is = asked_one message (AsksPush head changeset) one in
      absurd (none is.0 head changeset is.1)

  same_push : (head other : PushHead) (changeset its : List ℕ) (asked : Asked) → AsksPush head changeset ≡ asked → AsksPush other its ≡ asked → AreOne head other changeset its
  same_push head other changeset its asked one two =
      let same : AsksPush head changeset ≡ AsksPush other its = one ∙ sym two in
      let heads : head ≡ other = cc in
      (ap (λ (h : PushHead). h.base) heads, cc)

  -- a push that was asked is asked again
  pub again_sound : (limit : ℕ) (w : World) (r : ℕ) (asked : Asked) → IsSound limit w → WasAsked w asked → IsSound limit (with_message w (Asks r asked))
  again_sound limit w r asked s was =
      said_sound limit w (Asks r asked) s (s.spelled was.0 (Asks was.1 asked) was.2) (s.true was.0 (Asks was.1 asked) was.2)
      (λ head other changeset its one two origins numbers.
      let mine : AsksPush head changeset ≡ asked = (let is = (asked_one (Asks r asked) (AsksPush head changeset) one).1 in cc) in
      let old : WasAsked w (AsksPush head changeset) = subst (WasAsked w) (sym mine) was in
      elim (asked_split w.messages (Asks r asked ∷ []) (AsksPush other its) two) [
        | inl h ↦ s.once head other changeset its old h origins numbers
        | inr h ↦
            let its_too : AsksPush other its ≡ asked = (let is = (asked_one (Asks r asked) (AsksPush other its) h).1 in cc) in
            same_push head other changeset its asked mine its_too
      ])

  -- ---- a replica moves

  -- the world in which replica number r is another, and these messages were sent
  abbrev pub moved : World → ℕ → Member → List Sent → World
  moved w r after sent = record w { members = slice_set w.members r after; messages = w.messages ++ sent }

  module _ (limit : ℕ) (w : World) (r : ℕ) (before after : Member) (sent : List Sent) (s : IsSound limit w) (was : IsMember w r before) (counts : before.position.number ≤ after.position.number) where
    pub moved_at : (j : ℕ) (m : Member) → IsMember (moved w r after sent) j m → ((j ≡ r) × (m ≡ after)) ⊎ ((j ≢ r) × IsMember w j m)
    moved_at j m at = set_at w.members r after j m at

    pub goes_moved : Goes w (moved w r after sent) sent
    goes_moved = record {
      more = [];
      tables_same = refl;
      log_is = sym (append-nil w.log);
      messages_are = refl;
      counts = λ j m at. elim (moved_at j m at) [
        | inl p ↦ (before, subst (λ (i : ℕ). IsMember w i before) (sym p.0) was, subst (λ (x : Member). before.position.number ≤ x.position.number) (sym p.1) counts)
        | inr p ↦ (m, p.1, omega arith)
      ];
    }

    pub moved_sound : IsPlaced (moved w r after sent) r after
        → ((message : Sent) (k : ℕ) → slice_get sent k ≡ Some message → FitsSent message × IsTrue (moved w r after sent) message)
        → ((head other : PushHead) (changeset its : List ℕ) → AskedIn sent (AsksPush head changeset) → WasAsked (moved w r after sent) (AsksPush other its) → head.origin ≡ other.origin → head.number ≡ other.number → AreOne head other changeset its)
        → IsSound limit (moved w r after sent)
    moved_sound placed new_true new_once =
        next_sound w (moved w r after sent) sent goes_moved limit s s.log s.entries s.short
        (λ j m at. elim (moved_at j m at) [
          | inl p ↦ subst (λ (i : ℕ). IsPlaced (moved w r after sent) i m) (sym p.0) (subst (IsPlaced (moved w r after sent) r) (sym p.1) placed)
          | inr p ↦ placed_on w (moved w r after sent) sent goes_moved j m (s.placed j m p.1)
        ])
        new_true new_once
        (λ at entry there. offered_on w (moved w r after sent) sent goes_moved at entry (s.offered at entry there))

  -- and nothing is sent
  pub quiet_sound : (limit : ℕ) (w : World) (r : ℕ) (before after : Member) → IsSound limit w → IsMember w r before → before.position.number ≤ after.position.number → IsPlaced w r after
      → IsSound limit (with_member w r after)
  quiet_sound limit w r before after s was counts placed =
      let none : w.messages ++ [] ≡ w.messages = append-nil w.messages in
      let goes = goes_moved limit w r before after [] s was counts in
      subst (λ (ms : List Sent). IsSound limit (record w { members = slice_set w.members r after; messages = ms })) none
      (moved_sound limit w r before after [] s was counts
      (placed_on w (moved w r after []) [] goes r after placed)
      (λ message k at. absurd (nowhere message k at))
      (λ head other changeset its one two origins numbers. absurd (asked_none (AsksPush head changeset) one)))
