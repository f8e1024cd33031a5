-- A book that goes on.
use Rattle.std.proofs.Common.{◌≡◌, ◌⊎◌, ℕ, ◌+◌, ◌<◌, ◌≤◌, List, [], ◌∷◌, ◌++◌, length, take, Some, Result, Ok, Err, slice_get, inl, inr, refl, sym, ap, subst, ◌∙◌, arith, append_assoc, length-append}
use Rattle.std.proofs.Math.Seq.{take-length}
use Rattle.std.proofs.lemmas.List.{append-nil, take-append-le, take_more}
use Rattle.std.proofs.Math.Seq.{take-length}
use Rattle.std.proofs.lemmas.Option.{get_or_from_slice_get, slice_get_within}
use Rattle.std.specs.Prelude.{IfErr, OnErr, OnOk}
use Rattle.cs_value.specs.declared.catalog.TableDef.{TableDef}
use Rattle.cs_store.specs.log.Log.{IsLog, catalog_at, catalog_of}
use Rattle.cs_store.specs.log.Stored.{AreEntriesOf, IsEntryOf}
use Rattle.cs_store.specs.declared.log.entry.LogEntry.{LogEntry}
use Rattle.cs_store.specs.Contents.{Contents}
use Rattle.cs_store.specs.declared.store.RowStore.{Ghosts}
use Rattle.cs_pending.specs.Calls.{WritesStore}
use Rattle.cs_hub.specs.log_store.Shows.{ShowsLog}
use Rattle.cs_hub.specs.log_store.Versions.{ShowsBy, Versions}
use Rattle.cs_store.specs.log.Widens.{widens_from}
use Rattle.cs_hub.specs.appending.Appended.{IsAppendedIn}
use Rattle.cs_nodes.specs.following.Standing.{Begins}
use Rattle.cs_spine.specs.Known.{Known}
use Rattle.cs_hub.specs.Follows.{FitsBehind, IsFollowFault}
use Rattle.cs_hub.specs.declared.follow_fault.FollowFault.{FollowFault}
use Rattle.cs_hub.specs.declared.follow_fault.FollowFault.TheVariants as follow
use Rattle.cs_hub.specs.Holding.{Holding, Shows, ShowsSome, versions_of}
use Rattle.cs_hub.specs.Judges.{ReadsHub}
use Rattle.cs_store.specs.declared.log.entry.TheConstants.{MAX_ENTRIES}
use Rattle.cs_nodes.specs.books.Answers.{HasTaken, IsStuckAt}
use Rattle.cs_nodes.specs.books.Books.{BookState, IsBook, IsLater}
use Rattle.cs_nodes.specs.books.Steps.{IsFinished}

-- ---- lists

same_begins : (known : List LogEntry) → Begins known known
same_begins known = ([], sym (append-nil known))

then_begins : (a b c : List LogEntry) → Begins a b → Begins b c → Begins a c
then_begins a b c (more, is) (others, are) =
    (more ++ others, are ∙ ap (λ (l : List LogEntry). l ++ others) is ∙ append_assoc a more others)

wider : (known longer : List LogEntry) → Begins known longer → (version : ℕ) → version ≤ length known → (version ≤ length longer) × (take version longer ≡ take version known)
wider known longer (more, is) version within =
    let count : length longer ≡ length known + length more = ap length is ∙ length-append known more in (
      omega (arith, within, count),
      ap (take version) is ∙ take-append-le version known more within,
    )

-- the next entry, behind those before it
next_taken : (known : List LogEntry) (at : ℕ) (entry : LogEntry) → slice_get known at ≡ Some entry → take (at + 1) known ≡ take at known ++ entry ∷ []
next_taken known at entry here =
    take_more known at entry (slice_get_within known at entry here) ∙ ap (λ (e : LogEntry). take at known ++ e ∷ []) (get_or_from_slice_get known at entry entry here)

at_end : (before : List LogEntry) (entry : LogEntry) → slice_get (before ++ entry ∷ []) (length before) ≡ Some entry
at_end [] entry = refl
at_end (first ∷ before) entry = at_end before entry

-- the catalog at a version is that behind the entries before it
pub behind_front : (tables : List TableDef) (log : List LogEntry) (at : ℕ) → catalog_at tables log at ≡ catalog_at tables (take at log) (length (take at log))
behind_front tables log at = ap (catalog_of tables) (sym (take-length (take at log)))

-- what is appended fits behind the log
fits_behind : (versions : Versions) (log : List LogEntry) (entry : LogEntry) (old left : Contents) → ShowsBy versions old log → IsAppendedIn versions entry old left → FitsBehind versions.opening log entry
fits_behind versions log entry old left shows appended =
    let is = appended log shows in
    let front : take (length log) (log ++ entry ∷ []) ≡ take (length log) log = take-append-le (length log) log (entry ∷ []) (omega arith) in
    (subst (λ (l : List LogEntry). IsEntryOf (catalog_of versions.opening l) entry) front (is.1.fit (length log) entry (at_end log entry)), is.0)

-- ---- one step after another

module _ {S : Type 0} (g : Ghosts S) where
  abbrev Later : Type 0 → BookState S → BookState S → Type 0
  Later finished = IsLater g finished

  -- the log with the next entry
  abbrev OneMore : BookState S → Contents → Type 0
  OneMore book left =
      (book.hub.newest < length book.pass.known) × ShowsLog book.hub.catalog left (take (book.hub.newest + 1) book.pass.known)

  -- what a stop may leave
  abbrev Left : Type 0 → BookState S → BookState S → Contents → Type 0
  Left finished old new left =
      (left ≡ g.contents new.hub.store) ⊎ ((g.may_leave old.hub.store left × (g.contents new.hub.store ≡ g.contents old.hub.store)) ⊎ ((finished → ⊥) × (new.hub.newest < length new.pass.known) × ShowsLog new.hub.catalog left (take (new.hub.newest + 1) new.pass.known)))

  -- the book knows more, and its hub is as it was
  pub knows_more : (finished : Type 0) (old new : BookState S) → new.row ≡ old.row → new.hub ≡ old.hub → Begins old.pass.known new.pass.known → Later finished old new
  knows_more finished old new row hub begins =
      let store : new.hub.store ≡ old.hub.store = ap (λ (h : Holding S). h.store) hub in
      record {
        row = row;
        catalog = ap (λ (h : Holding S). h.catalog) hub;
        begins = begins;
        onwards = (let n : new.hub.newest ≡ old.hub.newest = ap (λ (h : Holding S). h.newest) hub in omega (arith, n));
        was_honest = λ h. subst g.honest store h;
        crash = λ h left l. inr (inl (subst (λ (s : S). g.may_leave s left) store l, ap g.contents store));
        later = (let f : g.failed new.hub.store ≡ g.failed old.hub.store = ap g.failed store in omega (arith, f));
        as_read = λ h. ap g.misreads store;
      }

  pub stays : (finished : Type 0) (book : BookState S) → Later finished book book
  stays finished book = knows_more finished book book refl refl (same_begins book.pass.known)

  -- its hub only judged
  pub looks : (finished : Type 0) (old new : BookState S) → new.row ≡ old.row → new.pass ≡ old.pass → ReadsHub g old.hub new.hub → (g.honest new.hub.store → g.misreads new.hub.store ≡ g.misreads old.hub.store)
      → Later finished old new
  looks finished old new row pass reads same = record {
    row = row;
    catalog = reads.catalog;
    begins = subst (Begins old.pass.known) (sym (ap (λ (p : Known). p.known) pass)) (same_begins old.pass.known);
    onwards = (let n : new.hub.newest ≡ old.hub.newest = reads.newest in omega (arith, n));
    was_honest = reads.was_honest;
    crash = λ h left l. inr (inl (reads.crash h left l, reads.same h));
    later = reads.later;
    as_read = same;
  }

  -- a step behind one that has finished
  before_it : (finished : Type 0) (old mid new : BookState S) (left : Contents) → g.contents new.hub.store ≡ g.contents mid.hub.store → Left (Unit {0}) old mid left → Left finished old new left
  before_it finished old mid new left same (inl is) = inl (is ∙ sym same)
  before_it finished old mid new left same (inr (inl (before, kept))) = inr (inl (before, same ∙ kept))
  before_it finished old mid new left same (inr (inr (not, room, shows))) = absurd (not tt)

  behind : (finished : Type 0) (old mid new : BookState S) → Later (Unit {0}) old mid → g.honest mid.hub.store → (left : Contents) → Left finished mid new left → Left finished old new left
  behind finished old mid new one h left (inl is) = inl is
  behind finished old mid new one h left (inr (inl (l, same))) = before_it finished old mid new left same (one.crash h left l)
  behind finished old mid new one h left (inr (inr more)) = inr (inr more)

  pub then_later : (finished : Type 0) (old mid new : BookState S) → Later (Unit {0}) old mid → Later finished mid new → Later finished old new
  then_later finished old mid new one two = record {
    row = two.row ∙ one.row;
    catalog = two.catalog ∙ one.catalog;
    begins = then_begins old.pass.known mid.pass.known new.pass.known one.begins two.begins;
    onwards = omega (arith, one.onwards, two.onwards);
    was_honest = λ h. one.was_honest (two.was_honest h);
    crash = λ h left l. behind finished old mid new one (two.was_honest h) left (two.crash h left l);
    later = omega (arith, one.later, two.later);
    as_read = λ h. two.as_read h ∙ one.as_read (two.was_honest h);
  }

  -- said of more that it has finished
  left_as : (some other : Type 0) (old new : BookState S) (left : Contents) → (other → some) → Left some old new left → Left other old new left
  left_as some other old new left on (inl is) = inl is
  left_as some other old new left on (inr (inl is)) = inr (inl is)
  left_as some other old new left on (inr (inr (not, room, shows))) = inr (inr ((λ o. not (on o)), room, shows))

  pub later_as : (some other : Type 0) (old new : BookState S) → (other → some) → Later some old new → Later other old new
  later_as some other old new on is = record {
    row = is.row;
    catalog = is.catalog;
    begins = is.begins;
    onwards = is.onwards;
    was_honest = is.was_honest;
    crash = λ h left l. left_as some other old new left on (is.crash h left l);
    later = is.later;
    as_read = is.as_read;
  }

  -- ---- it is a book again

  -- as its pass learns
  pub wider_book : (book : BookState S) → IsBook g book → (pass : Known) → pass.spine ≡ book.pass.spine → Begins book.pass.known pass.known → length pass.known ≤ MAX_ENTRIES
      → IsBook g (record { row = book.row; hub = book.hub; pass = pass })
  wider_book book is pass spine begins few =
      let w = wider book.pass.known pass.known begins book.hub.newest is.within in
      record {
        of = spine ∙ is.of;
        few = few;
        within = w.0;
        shows = λ h. subst (Shows g.contents book.hub) (sym w.1) (is.shows h);
      }

  -- as its hub stays as it was
  pub same_book : (book : BookState S) → IsBook g book → (hub : Holding S) → hub.catalog ≡ book.hub.catalog → hub.newest ≡ book.hub.newest → hub.widens ≡ book.hub.widens → (g.honest hub.store → g.honest book.hub.store) → (g.honest hub.store → g.contents hub.store ≡ g.contents book.hub.store)
      → IsBook g (record { row = book.row; hub = hub; pass = book.pass })
  same_book book is hub catalog kept wide was_honest same = record {
    of = is.of;
    few = is.few;
    within = (let within = is.within in omega (arith, kept, within));
    shows = λ h.
        let shows = is.shows (was_honest h) in
        let front = take book.hub.newest book.pass.known in
        let log : take hub.newest book.pass.known ≡ front = ap (λ (n : ℕ). take n book.pass.known) kept in (
          subst (λ (l : List LogEntry). ShowsLog hub.catalog (g.contents hub.store) l) (sym log)
              (subst (λ (t : List TableDef). ShowsLog t (g.contents hub.store) front) (sym catalog) (subst (λ (c : Contents). ShowsLog book.hub.catalog c front) (sym (same h)) shows.0)),
          kept ∙ shows.1 ∙ ap length (sym log),
          wide ∙ shows.2 ∙ ap (widens_from 0) (sym log),
        );
  }

  -- then the next entry is taken
  pub one_more : (finished : Type 0) (old mid seen new : BookState S) → Later (Unit {0}) old mid → seen.row ≡ mid.row → seen.hub ≡ mid.hub → Begins mid.pass.known seen.pass.known → Later finished seen new → Later finished old new
  one_more finished old mid seen new one row hub begins two =
      then_later finished old seen new (then_later (Unit {0}) old mid seen one (knows_more (Unit {0}) mid seen row hub begins)) two

  -- a book that has come to the last that is known shows all of it
  pub shows_all : (book : BookState S) → IsBook g book → book.hub.newest ≡ length book.pass.known → g.honest book.hub.store → Shows g.contents book.hub book.pass.known
  shows_all book is level h =
      let all : take book.hub.newest book.pass.known ≡ book.pass.known = ap (λ (n : ℕ). take n book.pass.known) level ∙ take-length book.pass.known in
      subst (Shows g.contents book.hub) all (is.shows h)

  -- ---- the next entry is taken

  -- what was taken is a log of the tables
  pub has_taken : (book : BookState S) → IsBook g book → g.honest book.hub.store → HasTaken book.hub.catalog book.pass.known book.hub.newest
  has_taken book is h = let shows = is.shows h in record { is_log = shows.0.is_log; fit = shows.0.fit }

  -- also where more is known
  pub has_taken_longer : (book : BookState S) → IsBook g book → (longer : List LogEntry) → Begins book.pass.known longer → g.honest book.hub.store → HasTaken book.hub.catalog longer book.hub.newest
  has_taken_longer book is longer begins h =
      let same = (wider book.pass.known longer begins book.hub.newest is.within).1 in
      subst (λ (taken : List LogEntry). IsLog book.hub.catalog taken × AreEntriesOf book.hub.catalog taken → HasTaken book.hub.catalog longer book.hub.newest) same
      (λ front. record { is_log = front.0; fit = front.1 }) ((has_taken book is h).is_log, (has_taken book is h).fit)

  module _ (book : BookState S) (is : IsBook g book) (entry : LogEntry) (here : slice_get book.pass.known book.hub.newest ≡ Some entry) (hub : Holding S) (catalog : hub.catalog ≡ book.hub.catalog) where
    abbrev After : BookState S
    After = record { row = book.row; hub = hub; pass = book.pass }

    abbrev Front : List LogEntry
    Front = take book.hub.newest book.pass.known

    abbrev Writes : {F : Type 0} → F → Result (Unit {0}) F → Type 0
    Writes device result = WritesStore g device (ShowsSome g.contents book.hub) (IsAppendedIn (versions_of book.hub) entry (g.contents book.hub.store)) book.hub.store hub.store result

    one_taken : g.honest book.hub.store → hub.newest ≡ book.hub.newest → (left : Contents) → IsAppendedIn (versions_of book.hub) entry (g.contents book.hub.store) left → OneMore After left
    one_taken h kept left appended =
        let shows = (appended Front (is.shows h)).1 in
        let within = slice_get_within book.pass.known book.hub.newest entry here in (
          omega (arith, within, kept),
          subst (λ (n : ℕ). ShowsLog hub.catalog left (take (n + 1) book.pass.known)) (sym kept)
              (subst (λ (t : List TableDef). ShowsLog t left (take (book.hub.newest + 1) book.pass.known)) (sym catalog)
              (subst (λ (l : List LogEntry). ShowsLog book.hub.catalog left l) (sym (next_taken book.pass.known book.hub.newest entry here)) shows)),
        )

    -- where it has finished, and yet nothing was taken, nothing is appended
    abbrev Ends : {F : Type 0} → Type 0 → Result (Unit {0}) F → Type 0
    Ends finished result =
        g.honest hub.store → finished → OnErr result ((left : Contents) → IsAppendedIn (versions_of book.hub) entry (g.contents book.hub.store) left → ⊥)

    left_so : {F : Type 0} (device : F) (result : Result (Unit {0}) F) (finished : Type 0) → Writes device result → OnErr result (hub.newest ≡ book.hub.newest) → Ends finished result
        → g.honest hub.store → (left : Contents) → g.may_leave hub.store left → Left finished book After left
    left_so device (Ok t) finished writes kept ends h left l =
        elim (writes.durable h left l) [ inl now ↦ inl now | inr before ↦ inr (inl before) ]
    left_so device (Err fault) finished writes kept ends h left l =
        elim (writes.crash h left l) [
          | inl before ↦ inr (inl (before, writes.err h))
          | inr appended ↦ (let more = one_taken (writes.was_honest h) kept left appended in inr (inr ((λ (f : finished). ends h f left appended), more.0, more.1)))
        ]

    pub takes : {F : Type 0} (device : F) (result : Result (Unit {0}) F) (finished : Type 0) → Writes device result → book.hub.newest ≤ hub.newest → OnErr result (hub.newest ≡ book.hub.newest) → Ends finished result → Later finished book After
    takes device result finished writes onwards kept ends = record {
      row = refl;
      catalog = catalog;
      begins = same_begins book.pass.known;
      onwards = onwards;
      was_honest = writes.was_honest;
      crash = λ h left l. left_so device result finished writes kept ends h left l;
      later = writes.later;
      as_read = λ h. writes.as_read h (Front, is.shows (writes.was_honest h));
    }

    -- it is a book again
    pub taken_book : hub.newest ≡ book.hub.newest + 1 → (g.honest hub.store → g.honest book.hub.store)
        → (g.honest hub.store → Shows g.contents book.hub Front → Shows g.contents hub (Front ++ entry ∷ [])) → IsBook g After
    taken_book counted was_honest shows = record {
      of = is.of;
      few = is.few;
      within = (let within = slice_get_within book.pass.known book.hub.newest entry here in omega (arith, counted, within));
      shows = λ h.
          subst (λ (l : List LogEntry). Shows g.contents hub l) (sym (ap (λ (n : ℕ). take n book.pass.known) counted ∙ next_taken book.pass.known book.hub.newest entry here)) (shows h (is.shows (was_honest h)));
    }

    onwards_of : {F : Type 0} (result : Result (Unit {0}) F) → OnOk result (hub.newest ≡ book.hub.newest + 1) → OnErr result (hub.newest ≡ book.hub.newest) → book.hub.newest ≤ hub.newest
    onwards_of (Ok t) counted kept = omega (arith, counted)
    onwards_of (Err fault) counted kept = omega (arith, kept)

    -- whatever came of it
    pub goes_on : {F : Type 0} (device : F) (result : Result (Unit {0}) F) (finished : Type 0) → Writes device result → OnOk result (hub.newest ≡ book.hub.newest + 1) → OnErr result (hub.newest ≡ book.hub.newest)
        → Ends finished result → Later finished book After
    goes_on device result finished writes counted kept ends = takes device result finished writes (onwards_of result counted kept) kept ends

    -- an entry that doesn't fit isn't appended
    pub ends_follow : (result : Result (Unit {0}) FollowFault) → (g.honest hub.store → (log : List LogEntry) → Shows g.contents book.hub log → IfErr result (IsFollowFault book.hub.catalog log entry))
        → (g.honest hub.store → g.honest book.hub.store) → Ends (IsFinished result) result
    ends_follow (Ok t) refused was_honest h finished = tt
    ends_follow (Err follow.Memory) refused was_honest h finished = absurd finished
    ends_follow (Err follow.Full) refused was_honest h finished = absurd finished
    ends_follow (Err follow.Device) refused was_honest h finished = absurd finished
    ends_follow (Err follow.Undefined) refused was_honest h finished = λ left appended.
        let shows = is.shows (was_honest h) in
        refused h Front shows (fits_behind (versions_of book.hub) Front entry (g.contents book.hub.store) left shows appended)

    pub ends_append : {F : Type 0} (result : Result (Unit {0}) F) → Ends (OnErr result ⊥) result
    ends_append (Ok t) h finished = tt
    ends_append (Err fault) h finished = absurd finished

    pub book_again : {F : Type 0} (device : F) (result : Result (Unit {0}) F) → Writes device result → OnOk result (hub.newest ≡ book.hub.newest + 1) → OnErr result (hub.newest ≡ book.hub.newest) → OnErr result (hub.widens ≡ book.hub.widens)
        → (g.honest hub.store → (log : List LogEntry) → Shows g.contents book.hub log → OnOk result (Shows g.contents hub (log ++ entry ∷ []))) → IsBook g After
    book_again device (Ok t) writes counted kept wide shows_more = taken_book counted writes.was_honest (λ h shows. shows_more h Front shows)
    book_again device (Err fault) writes counted kept wide shows_more = same_book book is hub catalog kept wide writes.was_honest writes.err

    -- what follows shows the longer log
    pub shown_of : {F : Type 0} (result : Result (Unit {0}) F) → (g.honest hub.store → (log : List LogEntry) → Shows g.contents book.hub log → OnOk result (FitsBehind book.hub.catalog log entry × Shows g.contents hub (log ++ entry ∷ [])))
        → g.honest hub.store → (log : List LogEntry) → Shows g.contents book.hub log → OnOk result (Shows g.contents hub (log ++ entry ∷ []))
    shown_of (Ok t) followed h log shows = (followed h log shows).1
    shown_of (Err fault) followed h log shows = tt

    -- or it is stuck there
    pub stuck : hub.newest ≡ book.hub.newest → g.honest book.hub.store → (FitsBehind book.hub.catalog Front entry → ⊥) → IsStuckAt hub.catalog book.pass.known hub.newest
    stuck kept h unfit =
        let front = has_taken book is h in
        subst (λ (t : List TableDef). IsStuckAt t book.pass.known hub.newest) (sym catalog)
        (subst (IsStuckAt book.hub.catalog book.pass.known) (sym kept) (record { front = front; entry = entry; here = here; unfit = unfit }))
