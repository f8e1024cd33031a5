-- A pull of what is known has one result, and leaves one thing.
use Rattle.std.proofs.Common.{◌≡◌, ◌+◌, ℕ, zero, suc, List, [], ◌∷◌, take, drop, Some, Ok, Err, refl, sym, ap, subst, ◌∙◌, arith, inl, inr}
use Rattle.std.specs.Prelude.{Result, slice_get}
use Rattle.std.specs.FinMap.{len}
use Rattle.std.proofs.lemmas.Option.{same_Some, slice_get_within}
use Rattle.cs_value.specs.Catalog.{AreTables}
use Rattle.cs_value.specs.declared.catalog.TableDef.{TableDef}
use Rattle.cs_normal.specs.State.{IsDefinedOn, State}
use Rattle.cs_store.specs.log.Entry.{entry_changes}
use Rattle.cs_store.specs.log.Log.{catalog_after, entries_between}
use Rattle.cs_store.specs.declared.log.entry.LogEntry.{LogEntry}
use Rattle.cs_store.specs.Contents.{Contents}
use Rattle.cs_conflict.specs.declared.clash.Clash.{Clash}
use Rattle.cs_conflict.specs.declared.conflict.Conflict.{Conflict}
use Rattle.cs_conflict.specs.declared.wish.Wish.{Wish}
use Rattle.cs_pending.specs.Laws.{OneView}
use Rattle.cs_pending.specs.View.{View}
use Rattle.cs_pending.specs.position.Shows.{ShowsAt, base}
use Rattle.cs_pending.specs.declared.position.position.Position.{Position}
use Rattle.cs_exchange.specs.pulling.Laws.{IsOfEntry, NoPullFaultWherePulled, OnePull, OnePullFault}
use Rattle.cs_exchange.specs.pulling.Pulls.{IsBad, IsPullFault, PullsOne, StopsPull}
use Rattle.cs_exchange.specs.declared.pulling.fault.PullFault.{PullFault}
use Rattle.cs_exchange.specs.declared.pulling.fault.PullFault.TheVariants as pull
use Rattle.cs_exchange.specs.taking.Laws.{OneContents, OneLogRows, PicksOnce}
use Rattle.cs_exchange.specs.taking.Takes.{StopsAt, taken}
use Rattle.cs_widening.specs.Laws.{WidenedAreTables}
use Rattle.cs_nodes.proofs.FollowingLemmas.Stood.{next_tables}
use Rattle.cs_nodes.specs.following.Laws.{AreNormal, IsOfEntries, OneKnownPull}
use Rattle.cs_nodes.specs.following.Pulls.{EndsPull, IsTakeFault, PullsEach}
use Rattle.cs_nodes.specs.declared.following.fault.NodeFault.{NodeFault}
use Rattle.cs_nodes.specs.declared.following.fault.NodeFault.TheVariants.{Memory, Device, BadEntry, Stopped, Full, Spent, TooLarge}

-- the laws that a pull is known by
pub record PullLaws {P : Type 0} (picks : P → Clash → Wish → P → Type 0) : Type 0 where
  pub view : OneView
  pub contents : OneContents
  pub log_rows : OneLogRows
  pub pull : OnePull picks
  pub fault : OnePullFault picks
  pub no_fault : NoPullFaultWherePulled picks
  pub wide_tables : WidenedAreTables

-- ---- the entries from one version to another

front_is : (xs : List LogEntry) (v : ℕ) (e : LogEntry) (es : List LogEntry) → drop v xs ≡ e ∷ es → (slice_get xs v ≡ Some e) × (drop (v + 1) xs ≡ es)
front_is [] zero e es is = absurd cc
front_is [] (suc v) e es is = absurd cc
front_is (x ∷ xs) zero e es is = (ap (λ (l : List LogEntry). slice_get l 0) is, ap (λ (l : List LogEntry). drop 1 l) is)
front_is (x ∷ xs) (suc v) e es is =
    let more = front_is xs v e es is in
    (let further : suc v + 1 ≡ suc (v + 1) = omega arith in (more.0, ap (λ (n : ℕ). drop n (x ∷ xs)) further ∙ more.1))

taken_is : (xs : List LogEntry) (w v : ℕ) (e : LogEntry) → slice_get (take w xs) v ≡ Some e → slice_get xs v ≡ Some e
taken_is [] zero v e is = is
taken_is [] (suc w) v e is = is
taken_is (x ∷ xs) zero v e is = absurd cc
taken_is (x ∷ xs) (suc w) zero e is = is
taken_is (x ∷ xs) (suc w) (suc v) e is = taken_is xs w v e is

pub between_head : (known : List LogEntry) (v w : ℕ) (e : LogEntry) (es : List LogEntry) → e ∷ es ≡ entries_between known v w → (slice_get known v ≡ Some e) × (es ≡ entries_between known (v + 1) w)
between_head known v w e es is =
    let front = front_is (take w known) v e es (sym is) in
    (taken_is known w v e front.0, sym front.1)

-- at the same rows it stops at the same
stops_as : {P : Type 0} (picks : P → Clash → Wish → P → Type 0) (log other own rows : State) (ts : _) → log ≡ other → own ≡ rows → (p : P) (conflict : Conflict) (q : P) → StopsAt picks log own ts p conflict q → StopsAt picks other rows ts p conflict q
stops_as picks log other own rows ts same alike p conflict q stops =
    subst (λ (x : State). StopsAt picks other x ts p conflict q) alike (subst (λ (x : State). StopsAt picks x own ts p conflict q) same stops)

module _ {P : Type 0} (picks : P → Clash → Wish → P → Type 0) (laws : PullLaws picks) (once : PicksOnce picks) (tables : List TableDef) (are : AreTables tables) (known : List LogEntry) (normal : AreNormal known) where
  -- ---- two views that one store shows

  module _ (position : Position) (store : Contents) (view seen : View) (v : ShowsAt tables store position view) (s : ShowsAt tables store position seen) where
    log_is : base position.flight view ≡ base position.flight seen
    log_is = sym (λ i name key. (laws.log_rows tables store position view seen v s).0 name key i)

    own_is : view.tables ≡ seen.tables
    own_is = sym (λ i name key. (laws.log_rows tables store position view seen v s).1 name key i)

    stops_seen : (entry : LogEntry) (p : P) (conflict : Conflict) (q : P) → StopsPull picks tables position entry view p conflict q → StopsPull picks tables position entry seen p conflict q
    stops_seen entry p conflict q is = record {
      room = is.room;
      others = is.others;
      stops = record {
        defined = subst (λ (log : State). IsDefinedOn tables (entry_changes entry) log) log_is is.stops.defined;
        stops = stops_as picks (base position.flight view) (base position.flight seen) view.tables seen.tables _ log_is own_is p conflict q is.stops.stops;
      };
    }

    bad_seen : (entry : LogEntry) → IsBad tables position entry view → IsBad tables position entry seen
    bad_seen entry (inl last) = inl last
    bad_seen entry (inr (others, undefined)) = inr (others, λ both. undefined (subst (λ (log : State). IsDefinedOn tables (entry_changes entry) log) (sym log_is) both.0, both.1))

    -- a fault of a pull, as a fault of the entry at the version
    pub as_pull_fault : (fault : NodeFault) (entry : LogEntry) (p q : P) → IsOfEntries (Err fault) → IsTakeFault picks tables fault position entry view p q
        → (told : PullFault) × IsOfEntry told × IsPullFault picks tables position position.version entry seen p q told × ((other : NodeFault) (r : P) → IsOfEntries (Err other) → IsTakeFault picks tables other position entry seen p r
        → (q ≡ r → fault ≡ other) × (q ≡ r))
    as_pull_fault Memory entry p q of is = absurd of
    as_pull_fault Device entry p q of is = absurd of
    as_pull_fault Full entry p q of is = absurd is
    as_pull_fault Spent entry p q of is = absurd is
    as_pull_fault TooLarge entry p q of is = absurd is
    as_pull_fault BadEntry entry p q of (bad, asked) = (pull.BadEntry, (λ e. cc, λ e. cc), (refl, bad_seen entry bad, asked), also)
      where
        also : (other : NodeFault) (r : P) → IsOfEntries (Err other) → IsTakeFault picks tables other position entry seen p r → (q ≡ r → BadEntry ≡ other) × (q ≡ r)
        also Memory r so told = absurd so
        also Device r so told = absurd so
        also Full r so told = absurd told
        also Spent r so told = absurd told
        also TooLarge r so told = absurd told
        also BadEntry r so (wrong, still) = (λ e. refl, asked ∙ sym still)
        also (Stopped conflict) r so told =
            let one = laws.fault tables position position.version entry seen pull.BadEntry (pull.Stopped conflict) p q r once (λ e. cc, λ e. cc) (λ e. cc, λ e. cc) (refl, bad_seen entry bad, asked) (refl, told) in
            absurd (let e = one.0 in cc)
    as_pull_fault (Stopped conflict) entry p q of is = (pull.Stopped conflict, (λ e. cc, λ e. cc), (refl, stops_seen entry p conflict q is), also)
      where
        also : (other : NodeFault) (r : P) → IsOfEntries (Err other) → IsTakeFault picks tables other position entry seen p r → (q ≡ r → Stopped conflict ≡ other) × (q ≡ r)
        also Memory r so told = absurd so
        also Device r so told = absurd so
        also Full r so told = absurd told
        also Spent r so told = absurd told
        also TooLarge r so told = absurd told
        also BadEntry r so (wrong, still) =
            let one = laws.fault tables position position.version entry seen (pull.Stopped conflict) pull.BadEntry p q r once (λ e. cc, λ e. cc) (λ e. cc, λ e. cc) (refl, stops_seen entry p conflict q is) (refl, wrong, still) in
            absurd (let e = one.0 in cc)
        also (Stopped conflict') r so told =
            let one = laws.fault tables position position.version entry seen (pull.Stopped conflict) (pull.Stopped conflict') p q r once (λ e. cc, λ e. cc) (λ e. cc, λ e. cc) (refl, stops_seen entry p conflict q is) (refl, told) in
            (λ e. let same : conflict ≡ conflict' = (let o = one.0 in cc) in ap (λ (c : Conflict). Stopped c) same, one.1)

    -- it doesn't end where it goes on
    pub goes_on : (begun : Position) (result : Result ℕ NodeFault) (entry : LogEntry) (next : View) (p q r : P) → IsOfEntries result → slice_get known position.version ≡ Some entry → PullsOne picks tables position entry seen p next r
        → EndsPull picks tables known begun result position view p q → ⊥
    goes_on begun (Ok count) entry next p q r of here one (level, counted, asked) = omega (arith, slice_get_within known position.version entry here, level)
    goes_on begun (Err fault) entry next p q r of here one (other, there, is) =
        let same : other ≡ entry = same_Some other entry (sym there ∙ here) in
        let told = as_pull_fault fault other p q of is in
        laws.no_fault tables position other seen next told.0 p r q once told.1 (subst (λ (e : LogEntry). PullsOne picks tables position e seen p next r) (sym same) one) told.2

    -- it ends in one way
    pub one_end : (begun : Position) (some other : Result ℕ NodeFault) (p q r : P) → IsOfEntries some → IsOfEntries other → EndsPull picks tables known begun some position view p q → EndsPull picks tables known begun other position seen p r
        → (some ≡ other) × (q ≡ r)
    one_end begun (Ok count) (Ok number) p q r of so (level, counted, asked) (level', counted', still) =
        (let same : count ≡ number = omega (arith, counted, counted') in ap (λ (n : ℕ). Ok n) same, asked ∙ sym still)
    one_end begun (Ok count) (Err fault) p q r of so (level, counted, asked) (entry, there, is) = absurd (omega (arith, slice_get_within known position.version entry there, level))
    one_end begun (Err fault) (Ok count) p q r of so (entry, there, is) (level, counted, asked) = absurd (omega (arith, slice_get_within known position.version entry there, level))
    one_end begun (Err fault) (Err fault') p q r of so (entry, there, is) (entry', there', is') =
        let same : entry' ≡ entry = same_Some entry' entry (sym there' ∙ there) in
        let told = as_pull_fault fault entry p q of is in
        let both = told.3 fault' r so (subst (λ (e : LogEntry). IsTakeFault picks tables fault' position e seen p r) same is') in
        (ap (λ (f : NodeFault). Err f) (both.0 both.1), both.1)

-- ---- one entry after another

-- both are at one position by one catalog, and one store shows what each has come to
pub record AreJoined {P : Type 0} (wide its : List TableDef) (here there : Position) (end last : View) (between among : P) : Type 0 where
  pub tables : wide ≡ its
  pub are : AreTables wide
  pub positions : here ≡ there
  pub asked : between ≡ among
  pub store : Contents
  pub one : ShowsAt wide store here end
  pub two : ShowsAt its store there last

counted : (tables : List TableDef) (position : Position) (pending : ℕ) (left : Contents) (view : View) → ShowsAt tables left (taken position pending) view → ShowsAt tables left (taken position (len left.pending)) view
counted tables position pending left view shows = subst (λ (n : ℕ). ShowsAt tables left (taken position n) view) shows.counted shows

shown_there : (store : Contents) (tables others : List TableDef) (position here : Position) (view end : View) → others ≡ tables → here ≡ position → end ≡ view → ShowsAt tables store position view → ShowsAt others store here end
shown_there store tables others position here view end wide is same shows =
    subst (λ (ts : List TableDef). ShowsAt ts store here end) (sym wide)
    (subst (λ (x : Position). ShowsAt tables store x end) (sym is) (subst (λ (w : View). ShowsAt tables store position w) (sym same) shows))

module _ {P : Type 0} (picks : P → Clash → Wish → P → Type 0) (known : List LogEntry) (begun : Position) where
  ends_at : (result : Result ℕ NodeFault) (tables others : List TableDef) (position here : Position) (view end : View) (p between q : P) → others ≡ tables → here ≡ position → end ≡ view → between ≡ p → EndsPull picks others known begun result here end between q
      → EndsPull picks tables known begun result position view p q
  ends_at result tables others position here view end p between q wide is same asked ends =
      subst (λ (ts : List TableDef). EndsPull picks ts known begun result position view p q) wide
      (subst (λ (x : Position). EndsPull picks others known begun result x view p q) is
      (subst (λ (w : View). EndsPull picks others known begun result here w p q) same
      (subst (λ (m : P). EndsPull picks others known begun result here end m q) asked ends)))

module _ {P : Type 0} (picks : P → Clash → Wish → P → Type 0) (laws : PullLaws picks) (once : PicksOnce picks) (known : List LogEntry) (normal : AreNormal known) (begun : Position)
    (some other : Result ℕ NodeFault) (of : IsOfEntries some) (so : IsOfEntries other) (wide its : List TableDef) (here there : Position) (end last : View) (between among q r : P)
    (ends : EndsPull picks wide known begun some here end between q) (stays : EndsPull picks its known begun other there last among r) where
  joined : (es fs : List LogEntry) (tables : List TableDef) → AreTables tables → (position : Position) (store : Contents) (view seen : View) (p : P) → ShowsAt tables store position view → ShowsAt tables store position seen
      → es ≡ entries_between known position.version here.version → fs ≡ entries_between known position.version there.version
      → PullsEach picks tables es position view p wide here end between → PullsEach picks tables fs position seen p its there last among
      → AreJoined wide its here there end last between among
  unfolding PullsEach
  joined [] [] tables are position store view seen p v s is so' many others = record {
    tables = many.0 ∙ sym others.0;
    are = subst AreTables (sym many.0) are;
    positions = many.1 ∙ sym others.1;
    asked = many.3 ∙ sym others.3;
    store = store;
    one = shown_there store tables wide position here view end many.0 many.1 many.2 v;
    two = shown_there store tables its position there seen last others.0 others.1 others.2 s;
  }
  joined [] (f ∷ fs) tables are position store view seen p v s is so' many (pending, left, next, middle, one, shows, rest) =
      absurd (goes_on picks laws once tables are known normal position store view seen v s begun some f next p q middle of (between_head known position.version there.version f fs so').0 one
      (ends_at picks known begun some tables wide position here view end p between q many.0 many.1 many.2 many.3 ends))
  joined (e ∷ es) [] tables are position store view seen p v s is so' (pending, left, next, middle, one, shows, rest) others =
      absurd (goes_on picks laws once tables are known normal position store seen view s v begun other e next p r middle so (between_head known position.version here.version e es is).0 one
      (ends_at picks known begun other tables its position there seen last p among r others.0 others.1 others.2 others.3 stays))
  joined (e ∷ es) (f ∷ fs) tables are position store view seen p v s is so' (pending, left, next, middle, one, shows, rest) (pending', left', next', middle', one', shows', rest') =
      let head = between_head known position.version here.version e es is in
      let head' = between_head known position.version there.version f fs so' in
      let same : f ≡ e = same_Some f e (sym head'.0 ∙ head.0) in
      let after = catalog_after tables e.body in
      let are_after : AreTables after = next_tables laws.wide_tables picks tables position view next p middle are e one in
      let two = subst (λ (x : LogEntry). PullsOne picks tables position x seen p next' middle') same one' in
      let shows_so = subst (λ (x : LogEntry). ShowsAt (catalog_after tables x.body) left' (taken position pending') next') same shows' in
      let rest_so = subst (λ (x : LogEntry). PullsEach picks (catalog_after tables x.body) fs (taken position pending') next' middle' its there last among) same rest' in
      let pulled = laws.pull tables store position e view seen next next' p middle middle' are (normal position.version e head.0) once v s one two in
      let held = laws.contents after (taken position 0) left left' next next' (counted after position pending left next shows) (counted after position pending' left' next' shows_so) pulled.0 pulled.1 in
      let number_is : pending' ≡ pending = shows_so.counted ∙ sym (ap (λ (c : Contents). len c.pending) held) ∙ sym shows.counted in
      let seen_there = subst (λ (n : ℕ). ShowsAt after left (taken position n) next') number_is (subst (λ (c : Contents). ShowsAt after c (taken position pending') next') (sym held) shows_so) in
      let onwards = subst (λ (n : ℕ). PullsEach picks after fs (taken position n) next' middle its there last among) number_is
      (subst (λ (m : P). PullsEach picks after fs (taken position pending') next' m its there last among) (sym pulled.2) rest_so) in
      joined es fs after are_after (taken position pending) left next next' middle shows seen_there head.1 head'.1 rest onwards

counted_here : (tables : List TableDef) (position : Position) (left : Contents) (view : View) → ShowsAt tables left position view → ShowsAt tables left (record position { pending = len left.pending }) view
counted_here tables position left view shows = subst (λ (n : ℕ). ShowsAt tables left (record position { pending = n }) view) shows.counted shows

module _ {P : Type 0} (picks : P → Clash → Wish → P → Type 0) (laws : PullLaws picks) (once : PicksOnce picks) (known : List LogEntry) (normal : AreNormal known) (begun : Position)
    (some other : Result ℕ NodeFault) (of : IsOfEntries some) (so : IsOfEntries other) (wide its : List TableDef) (here there : Position) (end last : View) (between among q r : P) (new later : Contents)
    (shown : ShowsAt wide new here end) (showed : ShowsAt its later there last) (ends : EndsPull picks wide known begun some here end between q) (stays : EndsPull picks its known begun other there last among r)
    (j : AreJoined wide its here there end last between among) where
  at_here : (store : Contents) → ShowsAt its store there last → ShowsAt wide store here last
  at_here store shows =
      subst (λ (ts : List TableDef). ShowsAt ts store here last) (sym j.tables) (subst (λ (x : Position). ShowsAt its store x last) (sym j.positions) shows)

  stays_here : EndsPull picks wide known begun other here last between r
  stays_here =
      subst (λ (ts : List TableDef). EndsPull picks ts known begun other here last between r) (sym j.tables)
      (subst (λ (x : Position). EndsPull picks its known begun other x last between r) (sym j.positions)
      (subst (λ (m : P). EndsPull picks its known begun other there last m r) (sym j.asked) stays))

  pub all_one : (some ≡ other) × (wide ≡ its) × (here ≡ there) × (new ≡ later) × (q ≡ r)
  all_one =
      let two_here = at_here j.store j.two in
      let result = one_end picks laws once wide j.are known normal here j.store end last j.one two_here begun some other between q r of so ends stays_here in
      let views = laws.view wide j.store end last j.one.rows two_here.rows in
      let held = laws.contents wide here new later end last (counted_here wide here new end shown) (counted_here wide here later last (at_here later showed)) views.0 views.1 in
      (result.0, j.tables, j.positions, held, result.1)

pub one_known_pull : {P : Type 0} (picks : P → Clash → Wish → P → Type 0) → PullLaws picks → OneKnownPull picks
one_known_pull picks laws tables wide its known old new later position here there before some other p q r are normal once shows of so (end, between, pulled, shown, ends) (last, among, pulled', showed, stays) =
    all_one picks laws once known normal position some other of so wide its here there end last between among q r new later shown showed ends stays
    (joined picks laws once known normal position some other of so wide its here there end last between among q r ends stays
    (entries_between known position.version here.version) (entries_between known position.version there.version) tables are position old before before p shows shows refl refl pulled.pulls pulled'.pulls)
