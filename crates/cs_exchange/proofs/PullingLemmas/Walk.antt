-- A list of entries on the way: those before were pulled, and what is left of it.
use Rattle.std.proofs.Common.{◌≡◌, ◌<◌, ◌≤◌, ◌+◌, ℕ, zero, suc, List, [], ◌∷◌, length, drop, Option, Some, None, refl, sym, ap, subst, ◌∙◌, arith, inl, inr}
use Rattle.std.specs.Prelude.{◌⊎◌, ◌≢◌, Result, Ok, Err, slice_get, MatchOption}
use Rattle.std.specs.FinMap.{len}
use Rattle.cs_value.specs.declared.catalog.TableDef.{TableDef}
use Rattle.cs_store.specs.log.Log.{catalog_after}
use Rattle.cs_store.specs.declared.log.entry.LogEntry.{LogEntry}
use Rattle.cs_store.specs.Calls.{MoreFailures}
use Rattle.cs_store.specs.Contents.{Contents}
use Rattle.cs_store.specs.declared.store.RowStore.{Ghosts}
use Rattle.cs_conflict.specs.declared.clash.Clash.{Clash}
use Rattle.cs_conflict.specs.declared.wish.Wish.{Wish}
use Rattle.cs_pending.specs.Calls.{WritesStore}
use Rattle.cs_pending.specs.View.{View}
use Rattle.cs_pending.specs.position.Shows.{ShowsAt, ShowsSomeAt}
use Rattle.cs_pending.specs.declared.position.position.Position.{Position}
use Rattle.cs_exchange.specs.taking.Takes.{taken}
use Rattle.cs_wire.specs.Entries.{ToldEntry}
use Rattle.cs_exchange.specs.pulling.Calls.{WritesInTurn}
use Rattle.cs_exchange.specs.pulling.Listed.{Ends, EndsThere, IsAmong, IsNextOf, IsToldAt, PullsList, PullsMany, TakesAll, TellsDevice, count_of}
use Rattle.cs_exchange.specs.pulling.Pulls.{IsBad, IsPullFault, PullsOne}
use Rattle.cs_exchange.specs.pulling.Steps.{EndsAt, IsToldFault, IsToldPulled, IsWideBy}
use Rattle.cs_exchange.specs.pulling.Told.{IsReadAs}
use Rattle.cs_exchange.specs.declared.pulling.fault.PullFault.{PullFault}
use Rattle.cs_exchange.specs.declared.pulling.fault.PullFault.TheVariants.{Memory, Behind, Gap, BadEntry, Stopped, Device}
use Rattle.cs_exchange.specs.declared.pulling.fault.AnswerFault.{AnswerFault}
use Rattle.cs_exchange.specs.declared.pulling.listing.Pulled.{Pulled}
use Rattle.cs_exchange.specs.declared.pulling.listing.Pulled.TheVariants.{Taken}

-- what is left of a list whose first entry was split off
abbrev pub left_of : Option (ToldEntry × List ToldEntry) → List ToldEntry
left_of None = []
left_of (Some parts) = parts.0 ∷ parts.1

pub split_left : (parts : Option (ToldEntry × List ToldEntry)) (entries : List ToldEntry) → MatchOption parts (entries ≡ []) (λ split. entries ≡ split.0 ∷ split.1) → entries ≡ left_of parts
split_left None entries is = is
split_left (Some parts) entries is = is

pub shorter : (left : List ToldEntry) (told : ToldEntry) (others rest : List ToldEntry) → left ≡ told ∷ others → others ≡ rest → length rest < length left
shorter left told others rest is same = omega (arith, ap (λ (xs : List ToldEntry). length xs) is, ap (λ (xs : List ToldEntry). length xs) same)

-- the entry at the front of what is left is the one at its place
pub at_front : (entries : List ToldEntry) (at : ℕ) (told : ToldEntry) (others : List ToldEntry) → drop at entries ≡ told ∷ others → (slice_get entries at ≡ Some told) × (drop (at + 1) entries ≡ others)
at_front [] zero told others is = absurd cc
at_front [] (suc at) told others is = absurd cc
at_front (e ∷ entries) zero told others is =
    (ap (λ (xs : List ToldEntry). slice_get xs 0) is, ap (λ (xs : List ToldEntry). drop 1 xs) is)
at_front (e ∷ entries) (suc at) told others is =
    let more = at_front entries at told others is in
    (let further : suc at + 1 ≡ suc (at + 1) = omega arith in (more.0, ap (λ (n : ℕ). drop n (e ∷ entries)) further ∙ more.1))

-- none is told behind the last
pub none_behind : (entries : List ToldEntry) (at place : ℕ) (told : ToldEntry) → drop at entries ≡ [] → at ≤ place → slice_get entries place ≡ Some told → ⊥
none_behind [] at place told is less found = absurd cc
none_behind (e ∷ entries) zero place told is less found = absurd (let f = is in cc)
none_behind (e ∷ entries) (suc at) zero told is less found = absurd (omega (arith, less))
none_behind (e ∷ entries) (suc at) (suc place) told is less found = none_behind entries at place told is (omega (arith, less)) found

module _ {P : Type 0} (picks : P → Clash → Wish → P → Type 0) (first : ℕ) (entries : List ToldEntry) where
  -- one more behind so many
  pub pulls_more : (count : ℕ) (tables : List TableDef) (position : Position) (view : View) (p : P) (others : List TableDef) (other : Position) (end : View) (q : P) → PullsMany picks first entries count tables position view p others other end q
      → (told : ToldEntry) (entry : LogEntry) (pending : ℕ) (left : Contents) (next : View) (between : P)
      → IsToldAt first entries other.version told → IsReadAs others told entry → PullsOne picks others other entry end q next between
      → ShowsAt (catalog_after others entry.body) left (taken other pending) next
      → PullsMany picks first entries (suc count) tables position view p (catalog_after others entry.body) (taken other pending) next between
  unfolding PullsMany
  pulls_more zero tables position view p others other end q same told entry pending left next between there read one shows =
      subst (λ (ts : List TableDef). PullsMany picks first entries 1 ts position view p (catalog_after others entry.body) (taken other pending) next between) same.0
      (subst (λ (x : Position). PullsMany picks first entries 1 others x view p (catalog_after others entry.body) (taken other pending) next between) same.1
      (subst (λ (v : View). PullsMany picks first entries 1 others other v p (catalog_after others entry.body) (taken other pending) next between) same.2
      (subst (λ (r : P). PullsMany picks first entries 1 others other end r (catalog_after others entry.body) (taken other pending) next between) same.3
      (told, entry, pending, left, next, between, there, read, one, shows, (refl, refl, refl, refl)))))
  pulls_more (suc count) tables position view p others other end q (told', entry', pending', left', next', between', there', read', one', shows', rest) told entry pending left next between there read one shows = (
    told',
    entry',
    pending',
    left',
    next',
    between',
    there',
    read',
    one',
    shows',
    pulls_more count (catalog_after tables entry'.body) (taken position pending') next' between' others other end q rest told entry pending left next between there read one shows,
  )

  -- where a list stands: what is left of it, and what was pulled
  pub record IsWalked {S : Type 0} (g : Ghosts S)
      (tables : List TableDef) (begun : Position) (old : S) (p : P) (count index : ℕ) (rest : List ToldEntry) (wide : List TableDef) (position : Position) (now : S) (q : P) : Type 0 where
    pub at : ℕ
    pub place : index ≡ first + at
    pub rest_is : drop at entries ≡ rest
    pub behind : (index ≤ position.version) ⊎ (index ≡ first)
    pub counted : count + first ≤ index
    pub seen : g.honest now → (before : View) → ShowsAt tables (g.contents old) begun before
        → (here : View) × PullsMany picks first entries count tables begun before p wide position here q × ShowsAt wide (g.contents now) position here
    pub turn : WritesInTurn g (Unit {0}) ⊥ (ShowsSomeAt tables begun (g.contents old))
        (IsAmong picks first entries tables begun (g.contents old) p) (IsNextOf picks first entries wide position (g.contents now)) old now

  -- before the first
  pub begins : {S : Type 0} (g : Ghosts S) (tables : List TableDef) (begun : Position) (old : S) (p : P) (rest : List ToldEntry)
      → entries ≡ rest → IsWalked g tables begun old p 0 first rest tables begun old p
  unfolding PullsMany
  begins g tables begun old p rest is = record {
    at = 0;
    place = omega arith;
    rest_is = is;
    behind = inr refl;
    counted = omega arith;
    seen = λ h before shows. (before, (refl, refl, refl, refl), shows);
    turn = record {
      was_honest = λ h. h;
      durable = λ h left may. inr (inl (may, refl));
      crash = λ h left may. inl may;
      kept = λ finished. refl;
      later = omega arith;
      cause = λ none. absurd none;
      as_read = λ h readable. refl;
    };
  }

  module _ {S : Type 0} (g : Ghosts S)
      (tables : List TableDef) (begun : Position) (old : S) (p : P) (count index : ℕ) (rest : List ToldEntry) (wide : List TableDef) (position : Position) (mid : S) (q : P)
      (walked : IsWalked g tables begun old p count index rest wide position mid q) where
    -- at the end
    end_there : (rest ≡ []) ⊎ (position.version < index) → EndsThere picks first entries position
    end_there (inl none) told is =
        none_behind entries walked.at is.at told (walked.rest_is ∙ none) (reached walked.behind) is.there
      where
        reached : (index ≤ position.version) ⊎ (index ≡ first) → walked.at ≤ is.at
        reached (inl less) = omega (arith, less, walked.place, is.place)
        reached (inr same) = omega (arith, same, walked.place, is.place)
    end_there (inr gap) told is = far walked.behind
      where
        far : (index ≤ position.version) ⊎ (index ≡ first) → ⊥
        far (inl less) = omega (arith, less, gap)
        far (inr same) = omega (arith, same, gap, is.place)

    pub end_pulls : (rest ≡ []) ⊎ (position.version < index) → g.honest mid → (before : View) → ShowsAt tables (g.contents old) begun before
        → PullsList picks first entries (Ok (Taken count)) tables begun before p wide position (g.contents mid) q
    end_pulls none h before shows =
        let here = walked.seen h before shows in
        (here.0, q, here.1, here.2, (end_there none, refl))

    -- one is passed over
    pub passed : (told : ToldEntry) (others left : List ToldEntry) → rest ≡ told ∷ others → others ≡ left → index < position.version
        → IsWalked g tables begun old p count (index + 1) left wide position mid q
    passed told others left is onwards less = record {
      at = walked.at + 1;
      place = omega (arith, walked.place);
      rest_is = (at_front entries walked.at told others (walked.rest_is ∙ is)).1 ∙ onwards;
      behind = inl (omega (arith, less));
      counted = omega (arith, walked.counted);
      seen = walked.seen;
      turn = walked.turn;
    }

    told_there : (told : ToldEntry) (others : List ToldEntry) → rest ≡ told ∷ others → index ≡ position.version → IsToldAt first entries position.version told
    told_there told others is same = record {
      at = walked.at;
      place = sym same ∙ walked.place;
      there = (at_front entries walked.at told others (walked.rest_is ∙ is)).0;
    }

    readable_mid : g.honest mid → ShowsSomeAt tables begun (g.contents old) → ShowsSomeAt wide position (g.contents mid)
    readable_mid h (before, shows) = let here = walked.seen h before shows in (here.0, here.2)

    -- what a stop may leave behind one more
    left_among : (told : ToldEntry) (others : List ToldEntry) → rest ≡ told ∷ others → index ≡ position.version → (next : P) (left : Contents) → g.honest mid
        → IsToldPulled picks wide position told q next (g.contents mid) left → IsAmong picks first entries tables begun (g.contents old) p left
    left_among told others is same next left h (entry, read, pulled) before shows =
        let here = walked.seen h before shows in
        let after = pulled here.0 here.2 in
        (count, catalog_after wide entry.body, taken position (len left.pending), after.0, next, pulls_more count tables begun before p wide position here.0 q here.1 told entry (len left.pending) left after.0 next (told_there told others is same) read after.2 after.1, after.1)

    -- or its commit, where that failed
    next_of : (told : ToldEntry) (others : List ToldEntry) → rest ≡ told ∷ others → index ≡ position.version → (next : P) (left : Contents)
        → IsToldPulled picks wide position told q next (g.contents mid) left → IsNextOf picks first entries wide position (g.contents mid) left
    unfolding PullsMany
    next_of told others is same next left (entry, read, pulled) = (
      q,
      λ view shows.
          let after = pulled view shows in
          (catalog_after wide entry.body, taken position (len left.pending), after.0, next, pulls_more 0 wide position view q wide position view q (refl, refl, refl, refl) told entry (len left.pending) left after.0 next (told_there told others is same) read after.2 after.1, after.1),
    )

    -- one is pulled
    pub pulled_on : (told : ToldEntry) (others left : List ToldEntry) → rest ≡ told ∷ others → others ≡ left → index ≡ position.version → (done : Unit {0}) (others_wide : List TableDef) (other : Position) (new : S) (next : P)
        → WritesStore g Device (ShowsSomeAt wide position (g.contents mid)) (IsToldPulled picks wide position told q next (g.contents mid)) mid new (Ok done)
        → other ≡ taken position other.pending
        → IsWideBy wide told others_wide
        → (g.honest new → ShowsSomeAt wide position (g.contents mid) → other.pending ≡ len (g.contents new).pending)
        → IsWalked g tables begun old p (count + 1) (index + 1) left others_wide other new next
    pulled_on told others left is onwards same done others_wide other new next writes moved widened right = record {
      at = walked.at + 1;
      place = omega (arith, walked.place);
      rest_is = (at_front entries walked.at told others (walked.rest_is ∙ is)).1 ∙ onwards;
      behind = inl (let further : other.version ≡ position.version + 1 = ap (λ (x : Position). x.version) moved in omega (arith, further, same));
      counted = omega (arith, walked.counted);
      seen = λ h before shows.
          let mid_honest = writes.was_honest h in
          let here = walked.seen mid_honest before shows in
          let told_one = writes.ok h in
          let after = told_one.2 here.0 here.2 in
          let pending = right h (here.0, here.2) in
          let where_is : other ≡ taken position (len (g.contents new).pending) = moved ∙ ap (taken position) pending in
          let wide_is : others_wide ≡ catalog_after wide told_one.0.body = widened told_one.0 told_one.1 in
          let suc_is : suc count ≡ count + 1 = omega arith in (
            after.0,
            subst (λ (n : ℕ). PullsMany picks first entries n tables begun before p others_wide other after.0 next) suc_is
                (subst (λ (ts : List TableDef). PullsMany picks first entries (suc count) tables begun before p ts other after.0 next) (sym wide_is)
                (subst (λ (x : Position). PullsMany picks first entries (suc count) tables begun before p (catalog_after wide told_one.0.body) x after.0 next) (sym where_is)
                (pulls_more count tables begun before p wide position here.0 q here.1 told told_one.0 (len (g.contents new).pending) (g.contents new) after.0 next (told_there told others is same) told_one.1 after.2 after.1))),
            subst (λ (ts : List TableDef). ShowsAt ts (g.contents new) other after.0) (sym wide_is)
                (subst (λ (x : Position). ShowsAt (catalog_after wide told_one.0.body) (g.contents new) x after.0) (sym where_is) after.1),
          );
      turn = record {
        was_honest = λ h. walked.turn.was_honest (writes.was_honest h);
        durable = λ h left may. twice (writes.was_honest h) left (writes.durable h left may);
        crash = λ h left may. either (writes.was_honest h) left (writes.crash h left may);
        kept = λ finished. writes.kept ∙ walked.turn.kept tt;
        later = omega (arith, walked.turn.later, writes.later);
        cause = λ none. absurd none;
        as_read = λ h readable. writes.as_read h (readable_mid (writes.was_honest h) readable) ∙ walked.turn.as_read (writes.was_honest h) readable;
      };
    }
      where
        twice : g.honest mid → (left : Contents) → (left ≡ g.contents new) ⊎ (g.may_leave mid left × (g.contents new ≡ g.contents mid))
            → (left ≡ g.contents new) ⊎ ((g.may_leave old left × (g.contents new ≡ g.contents old)) ⊎ ((Unit {0} → ⊥) × IsNextOf picks first entries others_wide other (g.contents new) left))
        twice h left (inl now) = inl now
        twice h left (inr (may, kept)) =
            elim (walked.turn.durable h left may) [
              | inl now ↦ inl (now ∙ sym kept)
              | inr (inl (may_old, stays)) ↦ inr (inl (may_old, kept ∙ stays))
              | inr (inr (undone, next_one)) ↦ absurd (undone tt)
            ]

        either : g.honest mid → (left : Contents) → g.may_leave mid left ⊎ IsToldPulled picks wide position told q next (g.contents mid) left
            → g.may_leave old left ⊎ IsAmong picks first entries tables begun (g.contents old) p left
        either h left (inl may) = walked.turn.crash h left may
        either h left (inr one) = inr (left_among told others is same next left h one)

-- why the entry that a told one is read as isn't pulled is why the told one isn't
pub told_fault : {P : Type 0} (picks : P → Clash → Wish → P → Type 0) (tables : List TableDef) (position : Position) (told : ToldEntry) (entry : LogEntry) (view : View) (p q : P) → IsReadAs tables told entry
    → ((other : LogEntry) → IsReadAs tables told other → entry ≡ other) → (fault : PullFault) → IsPullFault picks tables position position.version entry view p q fault → IsToldFault picks tables position told view p q fault
told_fault picks tables position told entry view p q read only Memory is = tt
told_fault picks tables position told entry view p q read only Behind is = absurd (omega (arith, is.0))
told_fault picks tables position told entry view p q read only Gap is = absurd (omega (arith, is.0))
told_fault picks tables position told entry view p q read only BadEntry is =
    (λ other so. subst (λ (e : LogEntry). IsBad tables position e view) (only other so) is.1, is.2)
told_fault picks tables position told entry view p q read only (Stopped conflict) is = (entry, read, is.1)
told_fault picks tables position told entry view p q read only Device is = tt

-- how a list ends at a fault of the next entry
pub ends_at : {P : Type 0} (picks : P → Clash → Wish → P → Type 0) (tables : List TableDef) (first : ℕ) (entries : List ToldEntry) (fault : PullFault) (count : ℕ) (result : Result Pulled AnswerFault) (told : ToldEntry) (position : Position) (view : View) (q next : P)
    → EndsAt fault count result → IsToldAt first entries position.version told → IsToldFault picks tables position told view q next fault
    → (count_of result ≡ count) × Ends picks first entries result tables position view q next
ends_at picks tables first entries Memory count result told position view q next is there wrong =
    subst (λ (r : Result Pulled AnswerFault). (count_of r ≡ count) × Ends picks first entries r tables position view q next) (sym is) (refl, tt)
ends_at picks tables first entries Behind count result told position view q next is there wrong = absurd wrong
ends_at picks tables first entries Gap count result told position view q next is there wrong = absurd wrong
ends_at picks tables first entries BadEntry count result told position view q next is there wrong =
    subst (λ (r : Result Pulled AnswerFault). (count_of r ≡ count) × Ends picks first entries r tables position view q next) (sym is)
    (refl, (record { told = told; there = there; bad = wrong.0 }, wrong.1))
ends_at picks tables first entries (Stopped conflict) count result told position view q next is there (entry, read, stops) =
    subst (λ (r : Result Pulled AnswerFault). (count_of r ≡ count) × Ends picks first entries r tables position view q next) (sym is)
    (refl, record { told = told; entry = entry; conflict = conflict; there = there; read = read; stops = stops })
ends_at picks tables first entries Device count result told position view q next is there wrong =
    subst (λ (r : Result Pulled AnswerFault). (count_of r ≡ count) × Ends picks first entries r tables position view q next) (sym is) (refl, tt)

-- a fault of the next entry leaves something undone
pub unfinished : (fault : PullFault) (count : ℕ) (result : Result Pulled AnswerFault) → fault ≢ Behind → fault ≢ Gap → EndsAt fault count result → TakesAll result → ⊥
unfinished Memory count result behind gap is finished = absurd (subst (λ (r : Result Pulled AnswerFault). TakesAll r) is finished)
unfinished Behind count result behind gap is finished = absurd (behind refl)
unfinished Gap count result behind gap is finished = absurd (gap refl)
unfinished BadEntry count result behind gap is finished = absurd (subst (λ (r : Result Pulled AnswerFault). TakesAll r) is finished)
unfinished (Stopped conflict) count result behind gap is finished = absurd (subst (λ (r : Result Pulled AnswerFault). TakesAll r) is finished)
unfinished Device count result behind gap is finished = absurd (subst (λ (r : Result Pulled AnswerFault). TakesAll r) is finished)

-- where a failed device is told, it is that fault
pub of_device : (fault : PullFault) (count : ℕ) (result : Result Pulled AnswerFault) → EndsAt fault count result → TellsDevice result → fault ≡ Device
of_device Memory count result is told = absurd (subst (λ (r : Result Pulled AnswerFault). TellsDevice r) is told)
of_device Behind count result is told = absurd (subst (λ (r : Result Pulled AnswerFault). TellsDevice r) is told)
of_device Gap count result is told = absurd (subst (λ (r : Result Pulled AnswerFault). TellsDevice r) is told)
of_device BadEntry count result is told = absurd (subst (λ (r : Result Pulled AnswerFault). TellsDevice r) is told)
of_device (Stopped conflict) count result is told = absurd (subst (λ (r : Result Pulled AnswerFault). TellsDevice r) is told)
of_device Device count result is told = refl

module _ {P S : Type 0} (picks : P → Clash → Wish → P → Type 0) (first : ℕ) (entries : List ToldEntry)
    (g : Ghosts S)
    (tables : List TableDef) (begun : Position) (old : S) (p : P) (count index : ℕ) (rest : List ToldEntry) (wide : List TableDef) (position : Position) (mid : S) (q : P)
    (walked : IsWalked picks first entries g tables begun old p count index rest wide position mid q)
    (told : ToldEntry) (others : List ToldEntry) (is : rest ≡ told ∷ others) (same : index ≡ position.version)
    (fault : PullFault) (new : S) (next : P) (result : Result Pulled AnswerFault) (ended : EndsAt fault count result)
    (writes : WritesStore g {T = Unit {0}} {E = PullFault} Device (ShowsSomeAt wide position (g.contents mid)) (IsToldPulled picks wide position told q next (g.contents mid)) mid new (Err fault)) where
  -- the list ended at a fault of the next entry
  pub stopped_pulls : (g.honest new → (view : View) → ShowsAt wide (g.contents mid) position view → IsToldFault picks wide position told view q next fault)
      → g.honest new → (before : View) → ShowsAt tables (g.contents old) begun before
      → PullsList picks first entries result tables begun before p wide position (g.contents new) next
  stopped_pulls refused h before shows =
      let mid_honest = writes.was_honest h in
      let here = walked.seen mid_honest before shows in
      let end = ends_at picks wide first entries fault count result told position here.0 q next ended
      (told_there picks first entries g tables begun old p count index rest wide position mid q walked told others is same)
      (refused h here.0 here.2) in (
        here.0,
        q,
        subst (λ (n : ℕ). PullsMany picks first entries n tables begun before p wide position here.0 q) (sym end.0) here.1,
        subst (λ (c : Contents). ShowsAt wide c position here.0) (sym (writes.err h)) here.2,
        end.1,
      )

  pub stopped_turn : fault ≢ Behind → fault ≢ Gap
      → WritesInTurn g (TakesAll result) (TellsDevice result) (ShowsSomeAt tables begun (g.contents old))
      (IsAmong picks first entries tables begun (g.contents old) p) (IsNextOf picks first entries wide position (g.contents new)) old new
  stopped_turn behind gap = record {
    was_honest = λ h. walked.turn.was_honest (writes.was_honest h);
    durable = λ h left may. third h left (writes.crash h left may);
    crash = λ h left may. either (writes.was_honest h) left (writes.crash h left may);
    kept = λ finished. absurd (unfinished fault count result behind gap ended finished);
    later = omega (arith, walked.turn.later, writes.later);
    cause = λ device.
        subst (λ (n : ℕ). MoreFailures n (g.failed new)) (walked.turn.kept tt)
        (writes.cause (ap (λ (f : PullFault). Err f) (of_device fault count result ended device)));
    as_read = λ h readable. writes.as_read h (readable_mid picks first entries g tables begun old p count index rest wide position mid q walked (writes.was_honest h) readable) ∙ walked.turn.as_read (writes.was_honest h) readable;
  }
    where
      either : g.honest mid → (left : Contents) → g.may_leave mid left ⊎ IsToldPulled picks wide position told q next (g.contents mid) left
          → g.may_leave old left ⊎ IsAmong picks first entries tables begun (g.contents old) p left
      either h left (inl may) = walked.turn.crash h left may
      either h left (inr one) = inr (left_among picks first entries g tables begun old p count index rest wide position mid q walked told others is same next left h one)

      third : g.honest new → (left : Contents) → g.may_leave mid left ⊎ IsToldPulled picks wide position told q next (g.contents mid) left
          → (left ≡ g.contents new) ⊎ ((g.may_leave old left × (g.contents new ≡ g.contents old)) ⊎ ((TakesAll result → ⊥) × IsNextOf picks first entries wide position (g.contents new) left))
      third h left (inl may) =
          elim (walked.turn.durable (writes.was_honest h) left may) [
            | inl now ↦ inl (now ∙ sym (writes.err h))
            | inr (inl (may_old, stays)) ↦ inr (inl (may_old, writes.err h ∙ stays))
            | inr (inr (undone, next_one)) ↦ absurd (undone tt)
          ]
      third h left (inr one) =
          inr (inr (
            unfinished fault count result behind gap ended,
            subst (λ (c : Contents). IsNextOf picks first entries wide position c left) (sym (writes.err h))
                (next_of picks first entries g tables begun old p count index rest wide position mid q walked told others is same next left one),
          ))
