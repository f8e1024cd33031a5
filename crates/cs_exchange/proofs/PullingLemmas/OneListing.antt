-- A list of entries has one result, and leaves one thing.
use Rattle.std.proofs.Common.{◌≡◌, ℕ, zero, suc, List, Result, Ok, Err, refl, sym, ap, subst, ◌∙◌, arith, inl, inr}
use Rattle.std.specs.Prelude.{slice_get}
use Rattle.std.specs.FinMap.{len}
use Rattle.std.proofs.lemmas.Option.{same_Some}
use Rattle.cs_value.specs.Catalog.{AreTables}
use Rattle.cs_value.specs.declared.catalog.TableDef.{TableDef}
use Rattle.cs_normal.specs.State.{IsDefinedOn, State}
use Rattle.cs_store.specs.log.Entry.{entry_changes}
use Rattle.cs_store.specs.log.Log.{catalog_after}
use Rattle.cs_store.specs.declared.log.entry.LogEntry.{LogEntry}
use Rattle.cs_store.specs.Contents.{Contents}
use Rattle.cs_conflict.specs.declared.clash.Clash.{Clash}
use Rattle.cs_conflict.specs.declared.conflict.Conflict.{Conflict}
use Rattle.cs_conflict.specs.declared.wish.Wish.{Wish}
use Rattle.cs_pending.specs.Laws.{OneView}
use Rattle.cs_pending.specs.View.{View}
use Rattle.cs_pending.specs.position.Shows.{ShowsAt, base}
use Rattle.cs_pending.specs.declared.position.position.Position.{Position}
use Rattle.cs_exchange.specs.taking.Laws.{BadIsNeither, NoStopWhereTaken, OneContents, OneLogRows, OneStopTaking, PicksOnce}
use Rattle.cs_exchange.specs.taking.Takes.{StopsAt, taken}
use Rattle.cs_wire.specs.Entries.{ToldEntry}
use Rattle.cs_exchange.specs.pulling.Laws.{IsOfList, OneList, OnePull, OneRead}
use Rattle.cs_exchange.specs.pulling.Listed.{Ends, EndsBad, EndsStopped, IsToldAt, PullsMany, count_of}
use Rattle.cs_exchange.specs.pulling.Pulls.{IsBad, PullsOne, StopsPull}
use Rattle.cs_exchange.specs.pulling.Told.{IsReadAs}
use Rattle.cs_exchange.specs.declared.pulling.fault.AnswerFault.{AnswerFault}
use Rattle.cs_exchange.specs.declared.pulling.fault.AnswerFault.TheVariants.{Memory, Device, BadEntry}
use Rattle.cs_exchange.specs.declared.pulling.listing.Pulled.{Pulled}
use Rattle.cs_exchange.specs.declared.pulling.listing.Pulled.TheVariants.{Taken, Stopped}
use Rattle.cs_widening.specs.Laws.{WidenedAreTables}
use Rattle.cs_exchange.proofs.PullingLemmas.Bodies.{next_tables}
use Rattle.cs_exchange.proofs.PullingLemmas.ListedSome.{read_normal}
use Rattle.cs_exchange.proofs.PullingLemmas.OnePulling.{bad_or_pull, bad_or_stop, stop_or_pull}

-- the laws that a list is known by
pub record ListLaws {P : Type 0} (picks : P → Clash → Wish → P → Type 0) : Type 0 where
  pub read : OneRead
  pub view : OneView
  pub contents : OneContents
  pub log_rows : OneLogRows
  pub pull : OnePull picks
  pub stop : OneStopTaking picks
  pub no_stop : NoStopWhereTaken picks
  pub bad : BadIsNeither picks
  pub wide_tables : WidenedAreTables

-- at the same rows it stops at the same
pub stops_as : {P : Type 0} (picks : P → Clash → Wish → P → Type 0) (log other own rows : State) (ts : _) → log ≡ other → own ≡ rows → (p : P) (conflict : Conflict) (q : P) → StopsAt picks log own ts p conflict q → StopsAt picks other rows ts p conflict q
stops_as picks log other own rows ts same alike p conflict q stops =
    subst (λ (x : State). StopsAt picks other x ts p conflict q) alike (subst (λ (x : State). StopsAt picks x own ts p conflict q) same stops)

module _ {P : Type 0} (picks : P → Clash → Wish → P → Type 0) (laws : ListLaws picks) (once : PicksOnce picks) (tables : List TableDef) (are : AreTables tables) (first : ℕ) (entries : List ToldEntry) where
  -- ---- one entry is told at a version

  same_told : (version : ℕ) (told other : ToldEntry) → IsToldAt first entries version told → IsToldAt first entries version other → told ≡ other
  same_told version told other t o =
      let places : t.at ≡ o.at = omega (arith, t.place, o.place) in
      same_Some _ _ (sym t.there ∙ ap (λ (at : ℕ). slice_get entries at) places ∙ o.there)

  same_entry : (version : ℕ) (told other : ToldEntry) (some entry : LogEntry) → IsToldAt first entries version told → IsToldAt first entries version other → IsReadAs tables told some → IsReadAs tables other entry → some ≡ entry
  same_entry version told other some entry t o is so =
      laws.read tables told some entry are is (subst (λ (x : ToldEntry). IsReadAs tables x entry) (sym (same_told version told other t o)) so)

  -- ---- two views that one store shows

  module _ (position : Position) (store : Contents) (view seen : View) (v : ShowsAt tables store position view) (s : ShowsAt tables store position seen) where
    log_is : base position.flight view ≡ base position.flight seen
    log_is = sym (λ i name key. (laws.log_rows tables store position view seen v s).0 name key i)

    own_is : view.tables ≡ seen.tables
    own_is = sym (λ i name key. (laws.log_rows tables store position view seen v s).1 name key i)

    pub stops_seen : (entry : LogEntry) (p : P) (conflict : Conflict) (q : P) → StopsPull picks tables position entry view p conflict q → StopsPull picks tables position entry seen p conflict q
    stops_seen entry p conflict q is = record {
      room = is.room;
      others = is.others;
      stops = record {
        defined = subst (λ (log : State). IsDefinedOn tables (entry_changes entry) log) log_is is.stops.defined;
        stops = stops_as picks (base position.flight view) (base position.flight seen) view.tables seen.tables _ log_is own_is p conflict q is.stops.stops;
      };
    }

    pub bad_seen : (entry : LogEntry) → IsBad tables position entry view → IsBad tables position entry seen
    bad_seen entry (inl last) = inl last
    bad_seen entry (inr (others, undefined)) = inr (others, λ both. undefined (subst (λ (log : State). IsDefinedOn tables (entry_changes entry) log) (sym log_is) both.0, both.1))

  -- ---- it doesn't end where it goes on

  module _ (position : Position) (store : Contents) (view seen : View) (v : ShowsAt tables store position view) (s : ShowsAt tables store position seen) where
    stops_on : (told : ToldEntry) (entry : LogEntry) (next : View) (p q r : P) → IsToldAt first entries position.version told → IsReadAs tables told entry → PullsOne picks tables position entry seen p next r
        → EndsStopped picks first entries tables position view p q → ⊥
    stops_on told entry next p q r there read pulls is =
        let one = same_entry position.version is.told told is.entry entry is.there there is.read read in
        stop_or_pull picks laws.bad laws.no_stop tables position entry seen next p r q is.conflict once
        (stops_seen position store view seen v s entry p is.conflict q (subst (λ (e : LogEntry). StopsPull picks tables position e view p is.conflict q) one is.stops)) pulls

    bad_on : (told : ToldEntry) (entry : LogEntry) (next : View) (p r : P) → IsToldAt first entries position.version told → IsReadAs tables told entry → PullsOne picks tables position entry seen p next r
        → EndsBad picks first entries tables position view → ⊥
    bad_on told entry next p r there read pulls is =
        let so = subst (λ (x : ToldEntry). IsReadAs tables x entry) (sym (same_told position.version is.told told is.there there)) read in
        bad_or_pull picks laws.bad laws.no_stop tables position entry seen next p r r (bad_seen position store view seen v s entry (is.bad entry so)) pulls

    pub goes_on : (result : Result Pulled AnswerFault) (told : ToldEntry) (entry : LogEntry) (next : View) (p q r : P) → IsOfList result → IsToldAt first entries position.version told → IsReadAs tables told entry
        → PullsOne picks tables position entry seen p next r → Ends picks first entries result tables position view p q → ⊥
    goes_on (Ok (Taken count)) told entry next p q r of there read pulls (none, asked) = none told there
    goes_on (Ok (Stopped count)) told entry next p q r of there read pulls is = stops_on told entry next p q r there read pulls is
    goes_on (Err (Memory count)) told entry next p q r of there read pulls is = of
    goes_on (Err (Device count)) told entry next p q r of there read pulls is = of
    goes_on (Err (BadEntry count)) told entry next p q r of there read pulls (is, asked) = bad_on told entry next p r there read pulls is

    -- it ends in one way

    one_stop : (p q r : P) → EndsStopped picks first entries tables position view p q → EndsStopped picks first entries tables position seen p r → q ≡ r
    one_stop p q r is so =
        let one = same_entry position.version is.told so.told is.entry so.entry is.there so.there is.read so.read in
        let stops = stops_seen position store view seen v s so.entry p is.conflict q (subst (λ (e : LogEntry). StopsPull picks tables position e view p is.conflict q) one is.stops) in
        (laws.stop tables position.flight (entry_changes so.entry) seen p q r is.conflict so.conflict once stops.stops so.stops.stops).1

    stop_or_bad : (p q : P) → EndsStopped picks first entries tables position view p q → EndsBad picks first entries tables position seen → ⊥
    stop_or_bad p q is so =
        let read = subst (λ (x : ToldEntry). IsReadAs tables x is.entry) (same_told position.version is.told so.told is.there so.there) is.read in
        bad_or_stop picks tables position is.entry seen p is.conflict q (so.bad is.entry read) (stops_seen position store view seen v s is.entry p is.conflict q is.stops)

  module _ (position : Position) (store : Contents) (view seen : View) (v : ShowsAt tables store position view) (s : ShowsAt tables store position seen) where
    pub one_end : (some other : Result Pulled AnswerFault) (p q r : P) → IsOfList some → IsOfList other → count_of some ≡ count_of other → Ends picks first entries some tables position view p q
        → Ends picks first entries other tables position seen p r → (some ≡ other) × (q ≡ r)
    one_end (Err (Memory count)) other p q r of so counts is ends = absurd of
    one_end (Err (Device count)) other p q r of so counts is ends = absurd of
    one_end (Ok (Taken count)) (Err (Memory number)) p q r of so counts is ends = absurd so
    one_end (Ok (Taken count)) (Err (Device number)) p q r of so counts is ends = absurd so
    one_end (Ok (Taken count)) (Ok (Taken number)) p q r of so counts (none, asked) (nothing, still) = (ap (λ (n : ℕ). Ok (Taken n)) counts, asked ∙ sym still)
    one_end (Ok (Taken count)) (Ok (Stopped number)) p q r of so counts (none, asked) ends = absurd (none ends.told ends.there)
    one_end (Ok (Taken count)) (Err (BadEntry number)) p q r of so counts (none, asked) (ends, still) = absurd (none ends.told ends.there)
    one_end (Ok (Stopped count)) (Err (Memory number)) p q r of so counts is ends = absurd so
    one_end (Ok (Stopped count)) (Err (Device number)) p q r of so counts is ends = absurd so
    one_end (Ok (Stopped count)) (Ok (Taken number)) p q r of so counts is (none, asked) = absurd (none is.told is.there)
    one_end (Ok (Stopped count)) (Ok (Stopped number)) p q r of so counts is ends = (ap (λ (n : ℕ). Ok (Stopped n)) counts, one_stop position store view seen v s p q r is ends)
    one_end (Ok (Stopped count)) (Err (BadEntry number)) p q r of so counts is (ends, still) = absurd (stop_or_bad position store view seen v s p q is ends)
    one_end (Err (BadEntry count)) (Err (Memory number)) p q r of so counts is ends = absurd so
    one_end (Err (BadEntry count)) (Err (Device number)) p q r of so counts is ends = absurd so
    one_end (Err (BadEntry count)) (Ok (Taken number)) p q r of so counts (is, asked) (none, still) = absurd (none is.told is.there)
    one_end (Err (BadEntry count)) (Ok (Stopped number)) p q r of so counts (is, asked) ends = absurd (stop_or_bad position store seen view s v p r ends is)
    one_end (Err (BadEntry count)) (Err (BadEntry number)) p q r of so counts (is, asked) (ends, still) = (ap (λ (n : ℕ). Err (BadEntry n)) counts, asked ∙ sym still)

-- ---- one entry after another

-- both have pulled as many, are at one position by one catalog, and one store shows what each has come to
pub record AreJoined {P : Type 0} (count number : ℕ) (wide its : List TableDef) (here there : Position) (end last : View) (between among : P) : Type 0 where
  pub counts : count ≡ number
  pub tables : wide ≡ its
  pub are : AreTables wide
  pub positions : here ≡ there
  pub asked : between ≡ among
  pub store : Contents
  pub one : ShowsAt wide store here end
  pub two : ShowsAt its store there last

counted : (tables : List TableDef) (position : Position) (pending : ℕ) (left : Contents) (view : View) → ShowsAt tables left (taken position pending) view → ShowsAt tables left (taken position (len left.pending)) view
counted tables position pending left view shows = subst (λ (n : ℕ). ShowsAt tables left (taken position n) view) shows.counted shows

shown_there : (store : Contents) (tables others : List TableDef) (position here : Position) (view end : View) → others ≡ tables → here ≡ position → end ≡ view → ShowsAt tables store position view → ShowsAt others store here end
shown_there store tables others position here view end wide is same shows =
    subst (λ (ts : List TableDef). ShowsAt ts store here end) (sym wide)
    (subst (λ (x : Position). ShowsAt tables store x end) (sym is) (subst (λ (w : View). ShowsAt tables store position w) (sym same) shows))

module _ {P : Type 0} (picks : P → Clash → Wish → P → Type 0) (first : ℕ) (entries : List ToldEntry) where
  ends_at : (result : Result Pulled AnswerFault) (tables others : List TableDef) (position here : Position) (view end : View) (p between q : P) → others ≡ tables → here ≡ position → end ≡ view → between ≡ p → Ends picks first entries result others here end between q
      → Ends picks first entries result tables position view p q
  ends_at result tables others position here view end p between q wide is same asked ends =
      subst (λ (ts : List TableDef). Ends picks first entries result ts position view p q) wide
      (subst (λ (x : Position). Ends picks first entries result others x view p q) is
      (subst (λ (w : View). Ends picks first entries result others here w p q) same
      (subst (λ (m : P). Ends picks first entries result others here end m q) asked ends)))

module _ {P : Type 0} (picks : P → Clash → Wish → P → Type 0) (laws : ListLaws picks) (once : PicksOnce picks) (first : ℕ) (entries : List ToldEntry)
    (some other : Result Pulled AnswerFault) (of : IsOfList some) (so : IsOfList other) (wide its : List TableDef) (here there : Position) (end last : View) (between among q r : P)
    (ends : Ends picks first entries some wide here end between q) (stays : Ends picks first entries other its there last among r) where
  joined : (count number : ℕ) (tables : List TableDef) → AreTables tables → (position : Position) (store : Contents) (view seen : View) (p : P) → ShowsAt tables store position view → ShowsAt tables store position seen
      → PullsMany picks first entries count tables position view p wide here end between → PullsMany picks first entries number tables position seen p its there last among
      → AreJoined count number wide its here there end last between among
  unfolding PullsMany
  joined zero zero tables are position store view seen p v s many others = record {
    counts = refl;
    tables = many.0 ∙ sym others.0;
    are = subst AreTables (sym many.0) are;
    positions = many.1 ∙ sym others.1;
    asked = many.3 ∙ sym others.3;
    store = store;
    one = shown_there store tables wide position here view end many.0 many.1 many.2 v;
    two = shown_there store tables its position there seen last others.0 others.1 others.2 s;
  }
  joined zero (suc number) tables are position store view seen p v s many (told, entry, pending, left, next, middle, there', read, one, shows, rest) =
      absurd (goes_on picks laws once tables are first entries position store view seen v s some told entry next p q middle of there' read one
      (ends_at picks first entries some tables wide position here view end p between q many.0 many.1 many.2 many.3 ends))
  joined (suc count) zero tables are position store view seen p v s (told, entry, pending, left, next, middle, there', read, one, shows, rest) others =
      absurd (goes_on picks laws once tables are first entries position store seen view s v other told entry next p r middle so there' read one
      (ends_at picks first entries other tables its position there seen last p among r others.0 others.1 others.2 others.3 stays))
  joined (suc count) (suc number) tables are position store view seen p v s (told, entry, pending, left, next, middle, at, read, one, shows, rest) (told', entry', pending', left', next', middle', at', read', one', shows', rest') =
      let same = same_entry picks laws once tables are first entries position.version told' told entry' entry at' at read' read in
      let after = catalog_after tables entry.body in
      let are_after : AreTables after = next_tables laws.wide_tables picks tables position view next p middle are entry one in
      let two = subst (λ (e : LogEntry). PullsOne picks tables position e seen p next' middle') same one' in
      let shows_so = subst (λ (e : LogEntry). ShowsAt (catalog_after tables e.body) left' (taken position pending') next') same shows' in
      let rest_so = subst (λ (e : LogEntry). PullsMany picks first entries number (catalog_after tables e.body) (taken position pending') next' middle' its there last among) same rest' in
      let pulled = laws.pull tables store position entry view seen next next' p middle middle' are (read_normal tables told.body entry.body read.read) once v s one two in
      let held = laws.contents after (taken position 0) left left' next next' (counted after position pending left next shows) (counted after position pending' left' next' shows_so) pulled.0 pulled.1 in
      let number_is : pending' ≡ pending = shows_so.counted ∙ sym (ap (λ (c : Contents). len c.pending) held) ∙ sym shows.counted in
      let seen_there = subst (λ (n : ℕ). ShowsAt after left (taken position n) next') number_is (subst (λ (c : Contents). ShowsAt after c (taken position pending') next') (sym held) shows_so) in
      let onwards = subst (λ (n : ℕ). PullsMany picks first entries number after (taken position n) next' middle its there last among) number_is
      (subst (λ (m : P). PullsMany picks first entries number after (taken position pending') next' m its there last among) (sym pulled.2) rest_so) in
      let more = joined count number after are_after (taken position pending) left next next' middle shows seen_there rest onwards in
      record { counts = ap (λ (n : ℕ). suc n) more.counts; tables = more.tables; are = more.are; positions = more.positions; asked = more.asked; store = more.store; one = more.one; two = more.two }

counted_here : (tables : List TableDef) (position : Position) (left : Contents) (view : View) → ShowsAt tables left position view → ShowsAt tables left (record position { pending = len left.pending }) view
counted_here tables position left view shows = subst (λ (n : ℕ). ShowsAt tables left (record position { pending = n }) view) shows.counted shows

module _ {P : Type 0} (picks : P → Clash → Wish → P → Type 0) (laws : ListLaws picks) (once : PicksOnce picks) (first : ℕ) (entries : List ToldEntry)
    (some other : Result Pulled AnswerFault) (of : IsOfList some) (so : IsOfList other) (wide its : List TableDef) (here there : Position) (end last : View) (between among q r : P) (new later : Contents)
    (shown : ShowsAt wide new here end) (showed : ShowsAt its later there last) (ends : Ends picks first entries some wide here end between q) (stays : Ends picks first entries other its there last among r)
    (j : AreJoined (count_of some) (count_of other) wide its here there end last between among) where
  at_here : (store : Contents) → ShowsAt its store there last → ShowsAt wide store here last
  at_here store shows =
      subst (λ (ts : List TableDef). ShowsAt ts store here last) (sym j.tables) (subst (λ (x : Position). ShowsAt its store x last) (sym j.positions) shows)

  stays_here : Ends picks first entries other wide here last between r
  stays_here =
      subst (λ (ts : List TableDef). Ends picks first entries other ts here last between r) (sym j.tables)
      (subst (λ (x : Position). Ends picks first entries other its x last between r) (sym j.positions)
      (subst (λ (m : P). Ends picks first entries other its there last m r) (sym j.asked) stays))

  pub all_one : (some ≡ other) × (wide ≡ its) × (here ≡ there) × (new ≡ later) × (q ≡ r)
  all_one =
      let two_here = at_here j.store j.two in
      let result = one_end picks laws once wide j.are first entries here j.store end last j.one two_here some other between q r of so j.counts ends stays_here in
      let views = laws.view wide j.store end last j.one.rows two_here.rows in
      let held = laws.contents wide here new later end last (counted_here wide here new end shown) (counted_here wide here later last (at_here later showed)) views.0 views.1 in
      (result.0, j.tables, j.positions, held, result.1)

pub one_list : {P : Type 0} (picks : P → Clash → Wish → P → Type 0) → ListLaws picks → OneList picks
one_list picks laws tables wide its first entries old new later position here there before seen some other p q r are once shows sees of so (end, between, many, shown, ends) (last, among, others, showed, stays) =
    all_one picks laws once first entries some other of so wide its here there end last between among q r new later shown showed ends stays
    (joined picks laws once first entries some other of so wide its here there end last between among q r ends stays (count_of some) (count_of other) tables are position old before seen p shows sees many others)
