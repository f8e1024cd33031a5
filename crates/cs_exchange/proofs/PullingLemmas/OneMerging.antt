-- Entries that are told at once have one fault, or one result.
use Rattle.std.proofs.Common.{◌≡◌, ◌<◌, ◌≤◌, ◌+◌, ◌⊎◌, ℕ, List, Result, Ok, Err, refl, sym, ap, subst, ◌∙◌, arith, inl, inr}
use Rattle.std.specs.FinMap.{len}
use Rattle.cs_value.specs.Catalog.{AreTables}
use Rattle.cs_value.specs.declared.catalog.TableDef.{TableDef}
use Rattle.cs_normal.specs.State.{IsDefinedOn, State}
use Rattle.cs_normal.specs.declared.normal.TableChanges.{TableChanges}
use Rattle.cs_store.specs.Contents.{Contents}
use Rattle.cs_conflict.specs.declared.clash.Clash.{Clash}
use Rattle.cs_conflict.specs.declared.conflict.Conflict.{Conflict}
use Rattle.cs_conflict.specs.declared.wish.Wish.{Wish}
use Rattle.cs_pending.specs.Laws.{OneView}
use Rattle.cs_pending.specs.View.{View}
use Rattle.cs_pending.specs.position.Shows.{ShowsAt, base}
use Rattle.cs_pending.specs.declared.position.position.Position.{Position}
use Rattle.cs_exchange.specs.taking.Laws.{BadIsNeither, NoStopWhereTaken, OneContents, OneLogRows, OneStopTaking, OneTaken, PicksOnce}
use Rattle.cs_exchange.specs.taking.Takes.{IsTaken, StopsTaking, brought}
use Rattle.cs_exchange.specs.pulling.Laws.{IsOfEntry, IsOfList, NoMergeFaultWhereTaken, OneForm, OneMergeFault, OneTold}
use Rattle.cs_exchange.specs.pulling.Merged.{IsBadMerged, IsGoodMerged, IsMergeFault, TakesTold}
use Rattle.cs_exchange.specs.pulling.Told.{IsFormOf}
use Rattle.cs_exchange.specs.declared.pulling.fault.AnswerFault.{AnswerFault}
use Rattle.cs_exchange.specs.declared.pulling.fault.AnswerFault.TheVariants as list
use Rattle.cs_exchange.specs.declared.pulling.fault.PullFault.{PullFault}
use Rattle.cs_exchange.specs.declared.pulling.fault.PullFault.TheVariants.{Memory, Behind, Gap, BadEntry, Stopped, Device}
use Rattle.cs_exchange.specs.declared.pulling.listing.Pulled.{Pulled}
use Rattle.cs_exchange.specs.declared.pulling.listing.Pulled.TheVariants as pulled
use Rattle.cs_exchange.proofs.PullingLemmas.OneListing.{stops_as}

-- ---- one fault

-- what is bad isn't stopped at
bad_or_stop : {P : Type 0} (picks : P → Clash → Wish → P → Type 0) (tables : List TableDef) (position : Position) (next : ℕ) (changes : List TableChanges) (view : View) (p : P) (conflict : Conflict) (q : P)
    → IsBadMerged tables position next changes view → position.version < next → StopsTaking picks tables position.flight changes view p conflict q → ⊥
bad_or_stop picks tables position next changes view p conflict q (inl below) above stops = absurd (omega (arith, below, above))
bad_or_stop picks tables position next changes view p conflict q (inr undefined) above stops = undefined stops.defined

module _ {P : Type 0} (picks : P → Clash → Wish → P → Type 0) (law : OneStopTaking picks) (tables : List TableDef) (position : Position) (first next : ℕ) (changes : List TableChanges) (view : View) (p q r : P) (once : PicksOnce picks) where
  one_behind : (other : PullFault) → IsOfEntry other → (first < position.version) × (q ≡ p) → IsMergeFault picks tables position first next changes view p r other → (Behind ≡ other) × (q ≡ r)
  one_behind Memory of s o = absurd (of.0 refl)
  one_behind Behind of s o = (refl, s.1 ∙ sym o.1)
  one_behind Gap of s o = absurd (omega (arith, s.0, o.0))
  one_behind BadEntry of s o = absurd (omega (arith, s.0, o.0))
  one_behind (Stopped conflict) of s o = absurd (omega (arith, s.0, o.0))
  one_behind Device of s o = absurd (of.1 refl)

  one_gap : (other : PullFault) → IsOfEntry other → (position.version < first) × (q ≡ p) → IsMergeFault picks tables position first next changes view p r other → (Gap ≡ other) × (q ≡ r)
  one_gap Memory of s o = absurd (of.0 refl)
  one_gap Behind of s o = absurd (omega (arith, s.0, o.0))
  one_gap Gap of s o = (refl, s.1 ∙ sym o.1)
  one_gap BadEntry of s o = absurd (omega (arith, s.0, o.0))
  one_gap (Stopped conflict) of s o = absurd (omega (arith, s.0, o.0))
  one_gap Device of s o = absurd (of.1 refl)

  one_bad : (other : PullFault) → IsOfEntry other → (first ≡ position.version) × IsBadMerged tables position next changes view × (q ≡ p) → IsMergeFault picks tables position first next changes view p r other → (BadEntry ≡ other) × (q ≡ r)
  one_bad Memory of s o = absurd (of.0 refl)
  one_bad Behind of s o = absurd (omega (arith, s.0, o.0))
  one_bad Gap of s o = absurd (omega (arith, s.0, o.0))
  one_bad BadEntry of s o = (refl, s.2 ∙ sym o.2)
  one_bad (Stopped conflict) of s o = absurd (bad_or_stop picks tables position next changes view p conflict r s.1 o.1 o.2)
  one_bad Device of s o = absurd (of.1 refl)

  one_stopped : (conflict : Conflict) (other : PullFault) → IsOfEntry other → (first ≡ position.version) × (position.version < next) × StopsTaking picks tables position.flight changes view p conflict q
      → IsMergeFault picks tables position first next changes view p r other → (Stopped conflict ≡ other) × (q ≡ r)
  one_stopped conflict Memory of s o = absurd (of.0 refl)
  one_stopped conflict Behind of s o = absurd (omega (arith, s.0, o.0))
  one_stopped conflict Gap of s o = absurd (omega (arith, s.0, o.0))
  one_stopped conflict BadEntry of s o = absurd (bad_or_stop picks tables position next changes view p conflict q o.1 s.1 s.2)
  one_stopped conflict (Stopped other) of s o =
      let same = law tables position.flight changes view p q r conflict other once s.2 o.2 in (ap (λ (c : Conflict). Stopped c) same.0, same.1)
  one_stopped conflict Device of s o = absurd (of.1 refl)

pub one_merge_fault : {P : Type 0} (picks : P → Clash → Wish → P → Type 0) → OneStopTaking picks → OneMergeFault picks
one_merge_fault picks law tables position first next changes view Memory other p q r once of so s o = absurd (of.0 refl)
one_merge_fault picks law tables position first next changes view Behind other p q r once of so s o = one_behind picks law tables position first next changes view p q r once other so s o
one_merge_fault picks law tables position first next changes view Gap other p q r once of so s o = one_gap picks law tables position first next changes view p q r once other so s o
one_merge_fault picks law tables position first next changes view BadEntry other p q r once of so s o = one_bad picks law tables position first next changes view p q r once other so s o
one_merge_fault picks law tables position first next changes view (Stopped conflict) other p q r once of so s o = one_stopped picks law tables position first next changes view p q r once conflict other so s o
one_merge_fault picks law tables position first next changes view Device other p q r once of so s o = absurd (of.1 refl)

-- ---- none where they are taken

bad_or_taken : {P : Type 0} (picks : P → Clash → Wish → P → Type 0) → BadIsNeither picks → (tables : List TableDef) (position : Position) (next : ℕ) (changes : List TableChanges) (before after : View) (p q : P)
    → IsBadMerged tables position next changes before → position.version < next → IsTaken picks tables position.flight changes before after p q → ⊥
bad_or_taken picks bad tables position next changes before after p q (inl below) above takes = absurd (omega (arith, below, above))
bad_or_taken picks bad tables position next changes before after p q (inr undefined) above takes = (bad tables position.flight changes before p q undefined).0 after takes

pub no_fault : {P : Type 0} (picks : P → Clash → Wish → P → Type 0) → BadIsNeither picks → NoStopWhereTaken picks → NoMergeFaultWhereTaken picks
no_fault picks bad stop tables position next changes before after Memory p q r once of above takes wrong = absurd (of.0 refl)
no_fault picks bad stop tables position next changes before after Behind p q r once of above takes wrong = absurd (omega (arith, wrong.0))
no_fault picks bad stop tables position next changes before after Gap p q r once of above takes wrong = absurd (omega (arith, wrong.0))
no_fault picks bad stop tables position next changes before after BadEntry p q r once of above takes wrong = bad_or_taken picks bad tables position next changes before after p q wrong.1 above takes
no_fault picks bad stop tables position next changes before after (Stopped conflict) p q r once of above takes wrong = stop tables position.flight changes before after p q r conflict once takes wrong.2
no_fault picks bad stop tables position next changes before after Device p q r once of above takes wrong = absurd (of.1 refl)

-- ---- one result

-- the laws that it is known by
pub record TellLaws {P : Type 0} (picks : P → Clash → Wish → P → Type 0) : Type 0 where
  pub form : OneForm
  pub view : OneView
  pub contents : OneContents
  pub log_rows : OneLogRows
  pub take : OneTaken picks
  pub stop : OneStopTaking picks
  pub no_stop : NoStopWhereTaken picks
  pub bad : BadIsNeither picks

module _ {P : Type 0} (picks : P → Clash → Wish → P → Type 0) (laws : TellLaws picks) (once : PicksOnce picks) (tables : List TableDef) (are : AreTables tables) (next : ℕ) (bytes : List ℕ) (old : Contents) (position : Position) where
  -- two views that one store shows
  module _ (view seen : View) (v : ShowsAt tables old position view) (s : ShowsAt tables old position seen) where
    log_is : base position.flight view ≡ base position.flight seen
    log_is = sym (λ i name key. (laws.log_rows tables old position view seen v s).0 name key i)

    own_is : view.tables ≡ seen.tables
    own_is = sym (λ i name key. (laws.log_rows tables old position view seen v s).1 name key i)

    defined_seen : (changes : List TableChanges) → IsDefinedOn tables changes (base position.flight view) → IsDefinedOn tables changes (base position.flight seen)
    defined_seen changes defined = subst (λ (log : State). IsDefinedOn tables changes log) log_is defined

    stops_seen : (changes : List TableChanges) (p : P) (conflict : Conflict) (q : P) → StopsTaking picks tables position.flight changes view p conflict q → StopsTaking picks tables position.flight changes seen p conflict q
    stops_seen changes p conflict q is = record {
      defined = defined_seen changes is.defined;
      stops = stops_as picks (base position.flight view) (base position.flight seen) view.tables seen.tables _ log_is own_is p conflict q is.stops;
    }

  -- it isn't stopped at, nor bad, where it is taken
  module _ (view seen : View) (v : ShowsAt tables old position view) (s : ShowsAt tables old position seen) (changes : List TableChanges) (form : IsFormOf tables bytes changes) where
    taken_or_stopped : (others : List TableChanges) → IsFormOf tables bytes others → (after : View) (p q r : P) (conflict : Conflict) → IsTaken picks tables position.flight changes view after p q
        → StopsTaking picks tables position.flight others seen p conflict r → ⊥
    taken_or_stopped others other after p q r conflict takes stops =
        let same : others ≡ changes = laws.form tables bytes others changes are other form in
        laws.no_stop tables position.flight changes view after p q r conflict once takes
        (stops_seen seen view s v changes p conflict r (subst (λ (cs : List TableChanges). StopsTaking picks tables position.flight cs seen p conflict r) same stops))

    taken_or_bad : (after : View) (p q : P) → IsTaken picks tables position.flight changes view after p q → (IsGoodMerged tables position bytes seen → ⊥) → ⊥
    taken_or_bad after p q takes bad = (laws.bad tables position.flight changes view p q (λ defined. bad (changes, form, defined_seen view seen v s changes defined))).0 after takes

    stopped_or_bad : (p q : P) (conflict : Conflict) → StopsTaking picks tables position.flight changes view p conflict q → (IsGoodMerged tables position bytes seen → ⊥) → ⊥
    stopped_or_bad p q conflict stops bad = bad (changes, form, defined_seen view seen v s changes stops.defined)

  counted : (left : Contents) (other : Position) (view : View) → other ≡ brought position next other.pending → ShowsAt tables left other view → ShowsAt tables left (brought position next (len left.pending)) view
  counted left other view moved shows =
      subst (λ (n : ℕ). ShowsAt tables left (brought position next n) view) shows.counted (subst (λ (x : Position). ShowsAt tables left x view) moved shows)

  counted_here : (left : Contents) (view : View) → ShowsAt tables left position view → ShowsAt tables left (record position { pending = len left.pending }) view
  counted_here left view shows = subst (λ (n : ℕ). ShowsAt tables left (record position { pending = n }) view) shows.counted shows

  module _ (new last : Contents) (here there : Position) (before seen : View) (shows : ShowsAt tables old position before) (sees : ShowsAt tables old position seen) (p q r : P) where
    -- taken twice
    both_taken : (count number : ℕ) → position.version + count ≡ next → position.version + number ≡ next → (changes others : List TableChanges) (after end : View) → IsFormOf tables bytes changes → IsFormOf tables bytes others
        → here ≡ brought position next here.pending → there ≡ brought position next there.pending → ShowsAt tables new here after → ShowsAt tables last there end
        → IsTaken picks tables position.flight changes before after p q → IsTaken picks tables position.flight others seen end p r
        → (◌≡◌ {A = Result Pulled AnswerFault} (Ok (pulled.Taken count)) (Ok (pulled.Taken number))) × (here ≡ there) × (new ≡ last) × (q ≡ r)
    both_taken count number sum total changes others after end form other moved went shown showed takes took =
        let same : others ≡ changes = laws.form tables bytes others changes are other form in
        let again = subst (λ (cs : List TableChanges). IsTaken picks tables position.flight cs seen end p r) same took in
        let one = laws.take tables old position changes before seen after end p q r are form.form.normal once shows sees takes again in
        let held : new ≡ last = laws.contents tables (brought position next 0) new last after end (counted new here after moved shown) (counted last there end went showed) one.0 one.1 in
        let counts : count ≡ number = omega (arith, sum, total) in
        let pendings : here.pending ≡ there.pending = shown.counted ∙ ap (λ (c : Contents). len c.pending) held ∙ sym showed.counted in
        (ap (λ (n : ℕ). Ok (pulled.Taken n)) counts, moved ∙ ap (λ (n : ℕ). brought position next n) pendings ∙ sym went, held, one.2)

    -- what stays twice
    both_stay : ShowsAt tables new position before → ShowsAt tables last position seen → new ≡ last
    both_stay is so =
        let alike = laws.view tables old before seen shows.rows sees.rows in
        laws.contents tables position new last before seen (counted_here new before is) (counted_here last seen so) alike.0 alike.1

    -- stopped at twice
    both_stopped : (changes others : List TableChanges) (conflict another : Conflict) → IsFormOf tables bytes changes → IsFormOf tables bytes others → StopsTaking picks tables position.flight changes before p conflict q
        → StopsTaking picks tables position.flight others seen p another r → q ≡ r
    both_stopped changes others conflict another form other stops stopped =
        let same : changes ≡ others = laws.form tables bytes changes others are form other in
        (laws.stop tables position.flight others seen p q r conflict another once
        (stops_seen before seen shows sees others p conflict q (subst (λ (cs : List TableChanges). StopsTaking picks tables position.flight cs before p conflict q) same stops)) stopped).1

    pub one_of : (some other : Result Pulled AnswerFault) → IsOfList some → IsOfList other → TakesTold picks tables next bytes some position before p here new q → TakesTold picks tables next bytes other position seen p there last r
        → (some ≡ other) × (here ≡ there) × (new ≡ last) × (q ≡ r)
    one_of (Err (list.Memory count)) other of so s o = absurd of
    one_of (Err (list.Device count)) other of so s o = absurd of
    one_of (Ok (pulled.Taken count)) (Err (list.Memory number)) of so s o = absurd so
    one_of (Ok (pulled.Taken count)) (Err (list.Device number)) of so s o = absurd so
    one_of (Ok (pulled.Taken count)) (Ok (pulled.Taken number)) of so (sum, changes, after, form, moved, shown, takes) (total, others, end, other, went, showed, took) =
        both_taken count number sum total changes others after end form other moved went shown showed takes took
    one_of (Ok (pulled.Taken count)) (Ok (pulled.Stopped number)) of so (sum, changes, after, form, moved, shown, takes) (none, others, conflict, other, stops, (same, still)) =
        absurd (taken_or_stopped before seen shows sees changes form others other after p q r conflict takes stops)
    one_of (Ok (pulled.Taken count)) (Err (list.BadEntry number)) of so (sum, changes, after, form, moved, shown, takes) (none, bad, asked, (same, still)) =
        absurd (taken_or_bad before seen shows sees changes form after p q takes bad)
    one_of (Ok (pulled.Stopped count)) (Err (list.Memory number)) of so s o = absurd so
    one_of (Ok (pulled.Stopped count)) (Err (list.Device number)) of so s o = absurd so
    one_of (Ok (pulled.Stopped count)) (Ok (pulled.Taken number)) of so (none, changes, conflict, form, stops, (same, still)) (total, others, end, other, went, showed, took) =
        absurd (taken_or_stopped seen before sees shows others other changes form end p r q conflict took stops)
    one_of (Ok (pulled.Stopped count)) (Ok (pulled.Stopped number)) of so (none, changes, conflict, form, stops, (same, still)) (nothing, others, another, other, stopped, (alike, stood)) = (
      ap (λ (n : ℕ). Ok (pulled.Stopped n)) (none ∙ sym nothing),
      same ∙ sym alike,
      both_stay still stood,
      both_stopped changes others conflict another form other stops stopped,
    )
    one_of (Ok (pulled.Stopped count)) (Err (list.BadEntry number)) of so (none, changes, conflict, form, stops, (same, still)) (nothing, bad, asked, (alike, stood)) =
        absurd (stopped_or_bad before seen shows sees changes form p q conflict stops bad)
    one_of (Err (list.BadEntry count)) (Err (list.Memory number)) of so s o = absurd so
    one_of (Err (list.BadEntry count)) (Err (list.Device number)) of so s o = absurd so
    one_of (Err (list.BadEntry count)) (Ok (pulled.Taken number)) of so (none, bad, asked, (same, still)) (total, others, end, other, went, showed, took) =
        absurd (taken_or_bad seen before sees shows others other end p r took bad)
    one_of (Err (list.BadEntry count)) (Ok (pulled.Stopped number)) of so (none, bad, asked, (same, still)) (nothing, others, another, other, stopped, (alike, stood)) =
        absurd (stopped_or_bad seen before sees shows others other p r another stopped bad)
    one_of (Err (list.BadEntry count)) (Err (list.BadEntry number)) of so (none, bad, asked, (same, still)) (nothing, wrong, answered, (alike, stood)) = (
      ap (λ (n : ℕ). Err (list.BadEntry n)) (none ∙ sym nothing),
      same ∙ sym alike,
      both_stay still stood,
      asked ∙ sym answered,
    )

pub one_told : {P : Type 0} (picks : P → Clash → Wish → P → Type 0) → TellLaws picks → OneTold picks
one_told picks laws tables next bytes old new last position here there before seen some other p q r are once shows sees of so s o =
    one_of picks laws once tables are next bytes old position new last here there before seen shows sees p q r some other of so s o
