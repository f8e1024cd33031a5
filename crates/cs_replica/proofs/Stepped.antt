-- What the calls of a replica give, as the step that it makes.
use Rattle.std.proofs.Common.{◌≡◌, ◌∙◌, ◌+◌, ◌++◌, ℕ, zero, suc, List, [], Result, Ok, Err, refl, sym, ap, subst, inl, inr, arith}
use Rattle.std.proofs.lemmas.Option.{same_Some}
use Rattle.cs_store.specs.log.Log.{catalog_after}
use Rattle.cs_store.specs.declared.names.MetaName.TheVariants.{Version}
use Rattle.cs_wire.specs.Numbers.{eight_bytes}
use Rattle.cs_wire.specs.OneSpelling.{eight, eight_back}
use Rattle.std.specs.Prelude.{IfErr, IfOk, OnErr, OnOk}
use Rattle.std.specs.FinMap.{len}
use Rattle.cs_value.specs.Catalog.{AreTables}
use Rattle.cs_value.specs.declared.catalog.TableDef.{TableDef}
use Rattle.cs_conflict.specs.declared.clash.Clash.{Clash}
use Rattle.cs_conflict.specs.declared.wish.Wish.{Wish}
use Rattle.cs_normal.specs.declared.normal.TableChanges.{TableChanges}
use Rattle.cs_pending.specs.Calls.{ReadsStore, WritesStore}
use Rattle.cs_pending.specs.View.{View}
use Rattle.cs_pending.specs.position.Laws.{FitsPosition, OnePosition}
use Rattle.cs_pending.specs.position.Shows.{ShowsAt, ShowsSomeAt, flown}
use Rattle.cs_pending.specs.declared.position.position.Position.{Position}
use Rattle.cs_exchange.specs.declared.pulling.fault.AnswerFault.{AnswerFault}
use Rattle.cs_exchange.specs.declared.pulling.fault.AnswerFault.TheVariants as fault
use Rattle.cs_exchange.specs.pushing.Pushes.{IsPushFault, IsPushMade, IsPushMadeIn, IsPushOf, grounded, pushed, request_of}
use Rattle.cs_exchange.specs.declared.pushing.fault.PushFault.{PushFault}
use Rattle.cs_exchange.specs.declared.pushing.fault.PushFault.TheVariants as pushes
use Rattle.cs_replica.specs.Answered.{Answers, TellsAccepted, TellsMerged}
use Rattle.cs_replica.specs.Edited.{IsSteppedIn, with_pending}
use Rattle.cs_replica.specs.Holding.{Holding}
use Rattle.cs_replica.specs.declared.told.Told.{Told}
use Rattle.cs_store.specs.Contents.{Contents}
use Rattle.cs_store.specs.declared.store.RowStore.{Ghosts}
use Rattle.cs_wire.specs.declared.answer.Answer.{Answer}
use Rattle.cs_wire.specs.declared.request.RequestBuf.{RequestBuf}
use Rattle.cs_conflict.specs.wish_list.Wished.{IsWished}
use Rattle.cs_wire.specs.Entries.{ToldEntry}
use Rattle.cs_wire.specs.declared.answer.Answer.TheVariants as told
use Rattle.cs_wire.specs.declared.short_answer.ShortAnswer.TheVariants as short
use Rattle.cs_exchange.specs.pulling.Calls.{WritesInTurn}
use Rattle.cs_exchange.specs.pulling.Listed.{PullsMany, count_of}
use Rattle.cs_exchange.specs.pulling.Merged.{TakesTold}
use Rattle.cs_exchange.specs.declared.pulling.listing.Pulled.{Pulled}
use Rattle.cs_exchange.specs.declared.pulling.listing.Pulled.TheVariants as pulled
use Rattle.cs_exchange.specs.taking.Takes.{taken}
use Rattle.cs_replica.specs.Leaves.{CallLeaves}
use Rattle.cs_replica.specs.Step.{IsAnsweredTo, IsPushedTo, StepsTo, Turns, member_of}

-- ---- the id stays

many_keeps_id : (first : ℕ) (entries : List ToldEntry) (count : ℕ) (tables : List TableDef) (position : Position) (view : View) (p : List Wish) (others : List TableDef) (other : Position) (end : View) (q : List Wish)
    → PullsMany IsWished first entries count tables position view p others other end q → other.id ≡ position.id
unfolding PullsMany
many_keeps_id first entries zero tables position view p others other end q (by, here, still, none) = ap (λ (x : Position). x.id) here
many_keeps_id first entries (suc count) tables position view p others other end q (told, entry, pending, left, next, between, at, read, pulls, shown, more) =
    many_keeps_id first entries count (catalog_after tables entry.body) (taken position pending) next between others other end q more

accepted_keeps_id : (origin number version : ℕ) (result : Result Told AnswerFault) (position other : Position) → TellsAccepted origin number version result position other → other.id ≡ position.id
accepted_keeps_id origin number version result position other (inl (own, is, moved)) = ap (λ (x : Position). x.id) moved
accepted_keeps_id origin number version result position other (inr (inl (away, is, still))) = ap (λ (x : Position). x.id) still
accepted_keeps_id origin number version result position other (inr (inr (fault, still))) = ap (λ (x : Position). x.id) still

told_keeps_id : (tables : List TableDef) (next : ℕ) (changeset : List ℕ) (result : Result Pulled AnswerFault) (position : Position) (before : View) (p : List Wish) (other : Position) (new : Contents) (q : List Wish)
    → TakesTold IsWished tables next changeset result position before p other new q → other.id ≡ position.id
told_keeps_id tables next changeset (Ok (pulled.Taken count)) position before p other new q (sum, changes, after, form, moved, shown, takes) = ap (λ (x : Position). x.id) moved
told_keeps_id tables next changeset (Ok (pulled.Stopped count)) position before p other new q (none, changes, conflict, form, stops, (same, still)) = ap (λ (x : Position). x.id) same
told_keeps_id tables next changeset (Err (fault.Memory count)) position before p other new q (none, (same, still)) = ap (λ (x : Position). x.id) same
told_keeps_id tables next changeset (Err (fault.Device count)) position before p other new q (none, (same, still)) = ap (λ (x : Position). x.id) same
told_keeps_id tables next changeset (Err (fault.BadEntry count)) position before p other new q (none, bad, asked, (same, still)) = ap (λ (x : Position). x.id) same

merged_keeps_id : (tables : List TableDef) (origin first next : ℕ) (changeset : List ℕ) (result : Result Told AnswerFault) (position : Position) (before : View) (p : List Wish) (other : Position) (new : Contents) (q : List Wish)
    → TellsMerged IsWished tables origin first next changeset result position before p other new q → other.id ≡ position.id
merged_keeps_id tables origin first next changeset result position before p other new q (inl (away, is, (same, keeps))) = ap (λ (x : Position). x.id) same
merged_keeps_id tables origin first next changeset result position before p other new q (inr (inl (meant, none, is, (same, keeps)))) = ap (λ (x : Position). x.id) same
merged_keeps_id tables origin first next changeset result position before p other new q (inr (inr (inl (meant, less, is, (same, keeps))))) = ap (λ (x : Position). x.id) same
merged_keeps_id tables origin first next changeset result position before p other new q (inr (inr (inr (meant, above, pulled, is, takes)))) = told_keeps_id tables next changeset pulled position before p other new q takes

pub answer_keeps_id : (tables : List TableDef) (answer : Answer) (result : Result Told AnswerFault) (position : Position) (before : View) (p : List Wish) (others : List TableDef) (other : Position) (new : Contents) (q : List Wish)
    → Answers IsWished tables answer result position before p others other new q → other.id ≡ position.id
answer_keeps_id tables (told.Short (short.Accepted origin number version)) result position before p others other new q answers = accepted_keeps_id origin number version result position other answers.1
answer_keeps_id tables (told.Short (short.Stale newest)) result position before p others other new q answers = ap (λ (x : Position). x.id) answers.2.0
answer_keeps_id tables (told.Short (short.Refused code)) result position before p others other new q answers = ap (λ (x : Position). x.id) answers.2.0
answer_keeps_id tables (told.Entries first entries) result position before p others other new q (pulled, is, list) =
    many_keeps_id first entries (count_of pulled) tables position before p others other list.0 list.1 list.2
answer_keeps_id tables (told.Merged origin first next changeset) result position before p others other new q answers = merged_keeps_id tables origin first next changeset result position before p other new q answers.1

-- ---- what an answer leaves is shown

module _ {P : Type 0} (picks : P → Clash → Wish → P → Type 0) where
  shown_together : (tables : List TableDef) (origin first next : ℕ) (changeset : List ℕ) (result : Result Told AnswerFault) (position : Position) (before : View) (p : P) (other : Position) (new : Contents) (q : P)
      → TellsMerged picks tables origin first next changeset result position before p other new q → ShowsSomeAt tables other new
  shown_together tables origin first next changeset result position before p other new q (inl (away, is, (same, keeps))) = (before, keeps.0)
  shown_together tables origin first next changeset result position before p other new q (inr (inl (meant, none, is, (same, keeps)))) = (before, keeps.0)
  shown_together tables origin first next changeset result position before p other new q (inr (inr (inl (meant, less, is, (same, keeps))))) = (before, keeps.0)
  shown_together tables origin first next changeset result position before p other new q (inr (inr (inr (meant, above, Ok (pulled.Taken count), is, (sum, changes, after, form, moved, shows, takes))))) = (after, shows)
  shown_together tables origin first next changeset result position before p other new q (inr (inr (inr (meant, above, Ok (pulled.Stopped count), is, (none, changes, conflict, form, stops, (same, shows)))))) = (before, rw same shows)
  shown_together tables origin first next changeset result position before p other new q (inr (inr (inr (meant, above, Err (fault.Memory count), is, (none, (same, shows)))))) = (before, rw same shows)
  shown_together tables origin first next changeset result position before p other new q (inr (inr (inr (meant, above, Err (fault.Device count), is, (none, (same, shows)))))) = (before, rw same shows)
  shown_together tables origin first next changeset result position before p other new q (inr (inr (inr (meant, above, Err (fault.BadEntry count), is, (none, bad, asked, (same, shows)))))) = (before, rw same shows)

  at_tables : (tables others : List TableDef) (other : Position) (new : Contents) → others ≡ tables → ShowsSomeAt tables other new → ShowsSomeAt others other new
  at_tables tables others other new by some = subst (λ (ts : List TableDef). ShowsSomeAt ts other new) (sym by) some

  pub shown_by : (tables : List TableDef) (answer : Answer) (result : Result Told AnswerFault) (position : Position) (before : View) (p : P) (others : List TableDef) (other : Position) (new : Contents) (q : P)
      → Answers picks tables answer result position before p others other new q → ShowsSomeAt others other new
  shown_by tables (told.Short (short.Accepted origin number version)) result position before p others other new q (by, tells, keeps) = at_tables tables others other new by (before, keeps.0)
  shown_by tables (told.Short (short.Stale newest)) result position before p others other new q (by, is, (same, keeps)) = at_tables tables others other new by (before, keeps.0)
  shown_by tables (told.Short (short.Refused code)) result position before p others other new q (by, is, (same, keeps)) = at_tables tables others other new by (before, keeps.0)
  shown_by tables (told.Entries first entries) result position before p others other new q (pulled, is, list) = (list.0, list.3)
  shown_by tables (told.Merged origin first next changeset) result position before p others other new q (by, tells) =
      at_tables tables others other new by (shown_together tables origin first next changeset result position before p other new q tells)

  -- ---- where the version stays, so do the tables

  many_go_on : (first : ℕ) (entries : List ToldEntry) (count : ℕ) (tables : List TableDef) (position : Position) (p : P) (before : View) (others : List TableDef) (other : Position) (end : View) (q : P)
      → PullsMany picks first entries count tables position before p others other end q → position.version + count ≡ other.version
  unfolding PullsMany
  many_go_on first entries zero tables position p before others other end q (by, here, still, none) = sym (ap (λ (x : Position). x.version) here ∙ omega arith)
  many_go_on first entries (suc count) tables position p before others other end q (told, entry, pending, left, next, between, at, read, pulls, shown, more) =
      let on = many_go_on first entries count (catalog_after tables entry.body) (taken position pending) between next others other end q more in
      omega (arith, on)

  none_go_on : (first : ℕ) (entries : List ToldEntry) (count : ℕ) (tables : List TableDef) (position : Position) (p : P) (before : View) (others : List TableDef) (other : Position) (end : View) (q : P)
      → PullsMany picks first entries count tables position before p others other end q → other.version ≡ position.version → others ≡ tables
  unfolding PullsMany
  none_go_on first entries zero tables position p before others other end q (by, here, still, none) same = by
  none_go_on first entries (suc count) tables position p before others other end q many same =
      let on = many_go_on first entries (suc count) tables position p before others other end q many in absurd (omega (arith, on, same))

  pub tables_stay : (tables : List TableDef) (answer : Answer) (result : Result Told AnswerFault) (position : Position) (before : View) (p : P) (others : List TableDef) (other : Position) (new : Contents) (q : P)
      → Answers picks tables answer result position before p others other new q → other.version ≡ position.version → others ≡ tables
  tables_stay tables (told.Short (short.Accepted origin number version)) result position before p others other new q answers same = answers.0
  tables_stay tables (told.Short (short.Stale newest)) result position before p others other new q answers same = answers.0
  tables_stay tables (told.Short (short.Refused code)) result position before p others other new q answers same = answers.0
  tables_stay tables (told.Entries first entries) result position before p others other new q (pulled, is, list) same =
      none_go_on first entries (count_of pulled) tables position p before others other list.0 list.1 list.2 same
  tables_stay tables (told.Merged origin first next changeset) result position before p others other new q answers same = answers.0

-- one store has one version
version_stays : (tables others : List TableDef) (contents : Contents) (position other : Position) (view end : View) → FitsPosition position → FitsPosition other
    → ShowsAt tables contents position view → ShowsAt others contents other end → other.version ≡ position.version
version_stays tables others contents position other view end fits ranged shows sees =
    let same : eight_bytes other.version ≡ eight_bytes position.version = same_Some _ _ (sym (sees.values Version) ∙ shows.values Version) in
    sym (eight_back other.version [] ranged.version) ∙ ap (λ (bytes : List ℕ). eight (bytes ++ [])) same ∙ eight_back position.version [] fits.version

module _ {S : Type 0} (g : Ghosts S) (tables : List TableDef) (was has : S) (old new : Position) where
  -- the replica over a store
  abbrev over : S → Position → Holding S
  over store position = record { store = store; catalog = tables; position = position }

  -- what is shown at this position is shown
  shown_at : (position : Position) (view : View) → new ≡ position → ShowsAt tables (g.contents has) position view → ShowsAt tables (g.contents has) new view
  shown_at position view same shows = subst (λ (p : Position). ShowsAt tables (g.contents has) p view) (sym same) shows

  -- where nothing has changed
  still : (view : View) → g.contents has ≡ g.contents was → new ≡ old → ShowsAt tables (g.contents was) old view → ShowsAt tables (g.contents has) new view
  still view same position shows = shown_at old view position (subst (λ (c : Contents). ShowsAt tables c old view) (sym same) shows)

  member_at : (view : View) (position : Position) → new ≡ position → member_of (over has new) view ≡ record { tables = tables; position = position; view = view }
  member_at view position same = ap (λ (p : Position). record { tables = tables; position = p; view = view }) same

  -- ---- an edit

  pub stepped : {E : Type 0} (device : E) (step : List TableDef → View → View → Type 0) (faulted : List TableDef → E → View → Type 0) (result : Result (Unit {0}) E)
      → WritesStore g device (ShowsSomeAt tables old (g.contents was)) (IsSteppedIn tables old (step tables) (g.contents was)) was has result
      → (g.honest has → (view : View) → ShowsAt tables (g.contents was) old view → IfErr result (λ fault. faulted tables fault view))
      → OnOk result (new ≡ with_pending old new.pending)
      → (g.honest has → ShowsSomeAt tables old (g.contents was) → OnOk result (new.pending ≡ len (g.contents has).pending))
      → OnErr result (new ≡ old)
      → Turns g (λ before after. StepsTo (step before.tables) (faulted before.tables) result before after) (over was old) (over has new)
  stepped device step faulted (Ok done) writes refused moved counted kept = record {
    was_honest = writes.was_honest;
    turned = λ h are fits view shows.
        let count = len (g.contents has).pending in
        let made = writes.ok h view shows in
        let same : new ≡ with_pending old count = moved ∙ ap (λ (n : ℕ). with_pending old n) (counted h (view, shows)) in (
          made.0,
          shown_at (with_pending old count) made.0 same made.2,
          subst FitsPosition (sym same) (record { id = fits.id; version = fits.version }),
          (count, made.0, g.contents has, member_at made.0 (with_pending old count) same, made.1, made.2),
        );
  }
  stepped device step faulted (Err fault) writes refused moved counted kept = record {
    was_honest = writes.was_honest;
    turned = λ h are fits view shows.
        (view, still view (writes.err h) kept shows, subst FitsPosition (sym kept) fits, (member_at view old kept, refused h view shows));
  }

  -- ---- a push

  pub pushed_to : (result : Result RequestBuf PushFault)
      → WritesStore g pushes.Device (ShowsSomeAt tables old (g.contents was)) (IsPushMadeIn tables old (g.contents was)) was has result
      → IfOk result (IsPushOf old new)
      → (g.honest has → (view : View) → ShowsAt tables (g.contents was) old view → OnOk result (IsPushMade tables old view (g.contents has) (flown new.flight)))
      → (g.honest has → (view : View) → ShowsAt tables (g.contents was) old view → IfErr result (λ fault. IsPushFault fault tables old view))
      → OnErr result (new ≡ old)
      → Turns g (IsPushedTo result) (over was old) (over has new)
  pushed_to (Ok request) writes of made refused kept = record {
    was_honest = writes.was_honest;
    turned = λ h are fits view shows.
        let is : IsPushMade tables old view (g.contents has) of.0 =
        subst (λ (changes : List TableChanges). IsPushMade tables old view (g.contents has) changes) (ap (λ (p : Position). flown p.flight) of.1) (made h view shows) in (
          grounded view,
          shown_at (pushed old of.0) (grounded view) of.1 is.shows,
          subst FitsPosition (sym of.1) (record { id = fits.id; version = fits.version }),
          (of.0, g.contents has, member_at (grounded view) (pushed old of.0) of.1, is, of.2 ∙ ap (λ (p : Position). request_of p of.0) of.1),
        );
  }
  pushed_to (Err fault) writes of made refused kept = record {
    was_honest = writes.was_honest;
    turned = λ h are fits view shows.
        (view, still view (writes.err h) kept shows, subst FitsPosition (sym kept) fits, (member_at view old kept, refused h view shows));
  }

  -- ---- what changes nothing

  pub unturned : (g.honest has → g.honest was) → (g.honest has → g.contents has ≡ g.contents was) → new ≡ old
      → Turns g (λ before after. after ≡ before) (over was old) (over has new)
  unturned honest same kept = record {
    was_honest = honest;
    turned = λ h are fits view shows. (view, still view (same h) kept shows, subst FitsPosition (sym kept) fits, member_at view old kept);
  }

  -- behind a call that only reads a stop leaves what it left
  pub reads_leave : {T E : Type 0} (device : E) (readable : Type 0) (result : Result T E) → ReadsStore g device readable was has result → new ≡ old
      → CallLeaves g (λ position now left. ⊥) (over was old) (over has new)
  reads_leave device readable result reads kept = λ h are fits view shows left may. inr (inl (reads.crash h left may, reads.same h, refl, kept))

  -- ---- where it is shown

  module _ (seen : g.honest has → (view : View) × ShowsAt tables (g.contents has) new view) (ranged : FitsPosition new) (one : OnePosition) (failed : Position → Contents → Contents → Type 0) where
    -- where the store holds what it held, the replica is where it was
    stays : g.honest has → AreTables tables → FitsPosition old → (view : View) → ShowsAt tables (g.contents was) old view → g.contents has ≡ g.contents was → new ≡ old
    stays h are fits view shows same =
        let next = seen h in
        (one tables (g.contents has) new old next.0 view are ranged fits next.1 (subst (λ (c : Contents). ShowsAt tables c old view) (sym same) shows)).0

    -- what a stop leaves behind a call that writes once
    pub once_leaves : {T E : Type 0} (device : E) (readable : Type 0) (once : Contents → Type 0) (result : Result T E)
        → WritesStore g device readable once was has result
        → OnErr result (new ≡ old)
        → ((left : Contents) → once left → failed old (g.contents was) left)
        → CallLeaves g failed (over was old) (over has new)
    once_leaves device readable once (Ok value) writes kept ahead = λ h are fits view shows left may.
        elim (writes.durable h left may) [
          | inl now ↦ inl now
          | inr (before, same) ↦ inr (inl (before, same, refl, stays h are fits view shows same))
        ]
    once_leaves device readable once (Err fault) writes kept ahead = λ h are fits view shows left may.
        let same : g.contents has ≡ g.contents was = writes.err h in
        let stood : new ≡ old = kept in
        elim (writes.crash h left may) [
          | inl before ↦ inr (inl (before, same, refl, stood))
          | inr made ↦ inr (inr (rw (same, stood) (ahead left made)))
        ]

-- ---- an answer, which may lead to other tables

module _ {S : Type 0} (g : Ghosts S) (tables others : List TableDef) (was has : S) (old new : Position) (seen : g.honest has → (view : View) × ShowsAt others (g.contents has) new view) (ranged : FitsPosition new)
    {P : Type 0} (picks : P → Clash → Wish → P → Type 0) (answer : Answer) (p unused : P) (result : Result Told AnswerFault)
    (told : g.honest has → (before : View) → ShowsAt tables (g.contents was) old before → Answers picks tables answer result old before p others new (g.contents has) unused) where
  abbrev held : List TableDef → S → Position → Holding S
  held catalog store position = record { store = store; catalog = catalog; position = position }

  pub heard : (g.honest has → g.honest was) → Turns g (IsAnsweredTo picks answer p result) (held tables was old) (held others has new)
  heard honest = record {
    was_honest = honest;
    turned = λ h are fits view shows.
        let next = seen h in
        (next.0, next.1, ranged, record { left = g.contents has; unused = unused; answers = told h view shows; shows = next.1 });
  }

  -- where the store holds what it held, the replica is where it was, with the tables that it had
  stays_there : OnePosition → g.honest has → AreTables tables → FitsPosition old → (view : View) → ShowsAt tables (g.contents was) old view → g.contents has ≡ g.contents was → (others ≡ tables) × (new ≡ old)
  stays_there one h are fits view shows same =
      let next = seen h in
      let before = subst (λ (c : Contents). ShowsAt tables c old view) (sym same) shows in
      let by : others ≡ tables = tables_stay picks tables answer result old view p others new (g.contents has) unused (told h view shows) (version_stays tables others (g.contents has) old new view next.0 fits ranged before next.1) in
      (by, (one tables (g.contents has) new old next.0 view are ranged fits (subst (λ (ts : List TableDef). ShowsAt ts (g.contents has) new next.0) by next.1) before).0)

  -- what a stop leaves behind a call that writes in turn
  pub turns_leave : OnePosition → (failed : Position → Contents → Contents → Type 0) (finished device readable : Type 0) (between : Contents → Type 0)
      → WritesInTurn g finished device readable between (failed new (g.contents has)) was has
      → CallLeaves g failed (held tables was old) (held others has new)
  turns_leave one failed finished device readable between writes = λ h are fits view shows left may.
      elim (writes.durable h left may) [
        | inl now ↦ inl now
        | inr (inl (before, same)) ↦ (let stayed = stays_there one h are fits view shows same in inr (inl (before, same, stayed.0, stayed.1)))
        | inr (inr (undone, more)) ↦ inr (inr more)
      ]
