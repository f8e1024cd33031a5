-- An entry is pulled once, or has one fault.
use Rattle.std.proofs.Common.{◌≡◌, ◌<◌, ℕ, List, Option, refl, sym, ap, subst, ◌∙◌, arith, inl, inr}
use Rattle.std.specs.Prelude.{Contains}
use Rattle.cs_value.specs.Catalog.{AreTables}
use Rattle.cs_value.specs.declared.catalog.TableDef.{TableDef}
use Rattle.cs_normal.specs.Normal.{IsNormalChangeset}
use Rattle.cs_normal.specs.declared.normal.TableChanges.{TableChanges}
use Rattle.cs_normal.specs.State.{AreSame, IsDefinedOn}
use Rattle.cs_store.specs.log.Entry.{MayWiden, WidensNone, changes_of_body, entry_changes}
use Rattle.cs_store.specs.log.Log.{catalog_after}
use Rattle.cs_store.specs.declared.log.body.Body.{Body}
use Rattle.cs_store.specs.declared.log.body.Body.TheVariants.{Changes, Widen}
use Rattle.cs_store.specs.declared.log.entry.LogEntry.{LogEntry}
use Rattle.cs_store.specs.Contents.{Contents}
use Rattle.cs_conflict.specs.declared.clash.Clash.{Clash}
use Rattle.cs_conflict.specs.declared.conflict.Conflict.{Conflict}
use Rattle.cs_conflict.specs.declared.wish.Wish.{Wish}
use Rattle.cs_pending.specs.Laws.{OneView}
use Rattle.cs_pending.specs.View.{View}
use Rattle.cs_pending.specs.position.Shows.{ShowsAt, base}
use Rattle.cs_pending.specs.declared.position.position.Position.{Position}
use Rattle.cs_exchange.specs.taking.Laws.{BadIsNeither, NoStopWhereTaken, OneContents, OneStopTaking, OneTaken, OneWidened, PicksOnce}
use Rattle.cs_exchange.specs.taking.Takes.{StopsAt, StopsTaking, taken}
use Rattle.cs_exchange.specs.pulling.Laws.{IsOfEntry, NoPullFaultWherePulled, OnePull, OnePullFault, OnePullIn}
use Rattle.cs_exchange.specs.pulling.Pulls.{IsBad, IsOwn, IsPullFault, IsPulledBody, PullsOne, StopsPull}
use Rattle.cs_exchange.specs.declared.pulling.fault.PullFault.{PullFault}
use Rattle.cs_exchange.specs.declared.pulling.fault.PullFault.TheVariants.{Memory, Behind, Gap, BadEntry, Stopped, Device}
use Rattle.cs_exchange.proofs.PullingLemmas.Bodies.{may_widen, no_changes_defined, own_catalog}

-- ---- pulled once

module _ (one_view : OneView) (widened : OneWidened) {P : Type 0} (picks : P → Clash → Wish → P → Type 0) (law : OneTaken picks) (tables : List TableDef) (contents : Contents) (position : Position) (before seen some other : View) (p q r : P)
    (are : AreTables tables) (once : PicksOnce picks) (b : ShowsAt tables contents position before) (s : ShowsAt tables contents position seen) where
  -- one view, by the catalog that what is done leaves, and one state of the picker
  abbrev IsOneBy : List TableDef → Type 0
  IsOneBy others =
      AreSame some.tables other.tables × ((table : TableDef) (key : List ℕ) → Contains others table → other.pending table.name key ≡ some.pending table.name key) × (q ≡ r)

  one_body : (body : Body) → IsNormalChangeset (changes_of_body body) → IsPulledBody picks tables position.flight body before some p q → IsPulledBody picks tables position.flight body seen other p r → IsOneBy (catalog_after tables body)
  one_body (Changes changes) normal is so = law tables contents position changes before seen some other p q r are normal once b s is so
  one_body (Widen table width) normal is so =
      let one = widened tables contents position table width before seen some other are b s is.0 so.0 in (one.0, one.1, is.1 ∙ sym so.1)

  one_own : (entry : LogEntry) → IsOwn position entry → some ≡ before → q ≡ p → other ≡ seen → r ≡ p → IsOneBy (catalog_after tables entry.body)
  one_own entry own same asked alike still =
      let views = one_view tables contents before seen b.rows s.rows in
      subst IsOneBy (sym (own_catalog tables position entry own)) (
        λ name key. ap (λ (v : View). v.tables name key) alike ∙ views.0 name key ∙ sym (ap (λ (v : View). v.tables name key) same),
        λ table key inside. ap (λ (v : View). v.pending table.name key) alike ∙ views.1 table key inside ∙ sym (ap (λ (v : View). v.pending table.name key) same),
        asked ∙ sym still,
      )

module _ {P : Type 0} (picks : P → Clash → Wish → P → Type 0) where
  pub one_pull : OneView → OneWidened → OneTaken picks → OnePull picks
  one_pull one_view widened law tables contents position entry before seen some other p q r are normal once b s (room, inl (own, same, asked)) (more, inl (mine, alike, still)) =
      one_own one_view widened picks law tables contents position before seen some other p q r are once b s entry own same asked alike still
  one_pull one_view widened law tables contents position entry before seen some other p q r are normal once b s (room, inl (own, same, asked)) (more, inr (others, takes)) = absurd (others own)
  one_pull one_view widened law tables contents position entry before seen some other p q r are normal once b s (room, inr (others, takes)) (more, inl (own, same, asked)) = absurd (others own)
  one_pull one_view widened law tables contents position entry before seen some other p q r are normal once b s (room, inr (others, takes)) (more, inr (away, took)) =
      one_body one_view widened picks law tables contents position before seen some other p q r are once b s entry.body normal takes took

  pub one_pull_in : OneView → OneWidened → OneTaken picks → OneContents → OnePullIn picks
  one_pull_in one_view widened law contents tables position entry old some other p q r are normal once (before, shows) s o =
      let one = s before shows in
      let two = o before shows in
      let both = one_pull one_view widened law tables old position entry before before one.0 two.0 p q r are normal once shows shows one.2 two.2 in
      (contents (catalog_after tables entry.body) (taken position 0) some other one.0 two.0 one.1 two.1 both.0 both.1, both.2)

-- ---- one fault

-- the picker stops at a change, so at no entry that widens a table
plain_stop : {P : Type 0} (picks : P → Clash → Wish → P → Type 0) (tables : List TableDef) (flight : Option (List TableChanges)) (body : Body) (view : View) (p : P) (conflict : Conflict) (q : P)
    → StopsTaking picks tables flight (changes_of_body body) view p conflict q → WidensNone body
unfolding StopsAt
plain_stop picks tables flight (Changes changes) view p conflict q stops = tt
plain_stop picks tables flight (Widen table width) view p conflict q stops = stops.stops

stops_plain : {P : Type 0} (picks : P → Clash → Wish → P → Type 0) (tables : List TableDef) (flight : Option (List TableChanges)) (entry : LogEntry) (view : View) (p : P) (conflict : Conflict) (q : P)
    → StopsTaking picks tables flight (entry_changes entry) view p conflict q → WidensNone entry.body
stops_plain picks tables flight entry view p conflict q stops = plain_stop picks tables flight entry.body view p conflict q stops

-- a bad entry isn't stopped at
pub bad_or_stop : {P : Type 0} (picks : P → Clash → Wish → P → Type 0) (tables : List TableDef) (position : Position) (entry : LogEntry) (view : View) (p : P) (conflict : Conflict) (q : P)
    → IsBad tables position entry view → StopsPull picks tables position entry view p conflict q → ⊥
bad_or_stop picks tables position entry view p conflict q (inl last) stops = let room = stops.room in absurd (omega (arith, last, room))
bad_or_stop picks tables position entry view p conflict q (inr (others, undefined)) stops = undefined (stops.stops.defined, may_widen tables entry.body (stops_plain picks tables position.flight entry view p conflict q stops.stops))

module _ {P : Type 0} (picks : P → Clash → Wish → P → Type 0) (law : OneStopTaking picks) (tables : List TableDef) (position : Position) (index : ℕ) (entry : LogEntry) (view : View) (p q r : P) (once : PicksOnce picks) where
  one_behind : (other : PullFault) → IsOfEntry other → (index < position.version) × (q ≡ p) → IsPullFault picks tables position index entry view p r other → (Behind ≡ other) × (q ≡ r)
  one_behind Memory of s o = absurd (of.0 refl)
  one_behind Behind of s o = (refl, s.1 ∙ sym o.1)
  one_behind Gap of s o = absurd (omega (arith, s.0, o.0))
  one_behind BadEntry of s o = absurd (omega (arith, s.0, o.0))
  one_behind (Stopped conflict) of s o = absurd (omega (arith, s.0, o.0))
  one_behind Device of s o = absurd (of.1 refl)

  one_gap : (other : PullFault) → IsOfEntry other → (position.version < index) × (q ≡ p) → IsPullFault picks tables position index entry view p r other → (Gap ≡ other) × (q ≡ r)
  one_gap Memory of s o = absurd (of.0 refl)
  one_gap Behind of s o = absurd (omega (arith, s.0, o.0))
  one_gap Gap of s o = (refl, s.1 ∙ sym o.1)
  one_gap BadEntry of s o = absurd (omega (arith, s.0, o.0))
  one_gap (Stopped conflict) of s o = absurd (omega (arith, s.0, o.0))
  one_gap Device of s o = absurd (of.1 refl)

  one_bad : (other : PullFault) → IsOfEntry other → (index ≡ position.version) × IsBad tables position entry view × (q ≡ p) → IsPullFault picks tables position index entry view p r other → (BadEntry ≡ other) × (q ≡ r)
  one_bad Memory of s o = absurd (of.0 refl)
  one_bad Behind of s o = absurd (omega (arith, s.0, o.0))
  one_bad Gap of s o = absurd (omega (arith, s.0, o.0))
  one_bad BadEntry of s o = (refl, s.2 ∙ sym o.2)
  one_bad (Stopped conflict) of s o = absurd (bad_or_stop picks tables position entry view p conflict r s.1 o.1)
  one_bad Device of s o = absurd (of.1 refl)

  one_stopped : (conflict : Conflict) (other : PullFault) → IsOfEntry other → (index ≡ position.version) × StopsPull picks tables position entry view p conflict q → IsPullFault picks tables position index entry view p r other
      → (Stopped conflict ≡ other) × (q ≡ r)
  one_stopped conflict Memory of s o = absurd (of.0 refl)
  one_stopped conflict Behind of s o = absurd (omega (arith, s.0, o.0))
  one_stopped conflict Gap of s o = absurd (omega (arith, s.0, o.0))
  one_stopped conflict BadEntry of s o = absurd (bad_or_stop picks tables position entry view p conflict q o.1 s.1)
  one_stopped conflict (Stopped other) of s o =
      let same = law tables position.flight (entry_changes entry) view p q r conflict other once s.1.stops o.1.stops in (ap (λ (c : Conflict). Stopped c) same.0, same.1)
  one_stopped conflict Device of s o = absurd (of.1 refl)

pub one_pull_fault : {P : Type 0} (picks : P → Clash → Wish → P → Type 0) → OneStopTaking picks → OnePullFault picks
one_pull_fault picks law tables position index entry view Memory other p q r once of so s o = absurd (of.0 refl)
one_pull_fault picks law tables position index entry view Behind other p q r once of so s o = one_behind picks law tables position index entry view p q r once other so s o
one_pull_fault picks law tables position index entry view Gap other p q r once of so s o = one_gap picks law tables position index entry view p q r once other so s o
one_pull_fault picks law tables position index entry view BadEntry other p q r once of so s o = one_bad picks law tables position index entry view p q r once other so s o
one_pull_fault picks law tables position index entry view (Stopped conflict) other p q r once of so s o = one_stopped picks law tables position index entry view p q r once conflict other so s o
one_pull_fault picks law tables position index entry view Device other p q r once of so s o = absurd (of.1 refl)

-- ---- none where it is pulled

module _ {P : Type 0} (picks : P → Clash → Wish → P → Type 0) (bad : BadIsNeither picks) (stop : NoStopWhereTaken picks) (tables : List TableDef) (position : Position) (before after : View) (p q r : P) where
  -- what is taken is defined on the log's rows, or may widen its table so
  good_body : (body : Body) → IsPulledBody picks tables position.flight body before after p q → (IsDefinedOn tables (changes_of_body body) (base position.flight before) × MayWiden tables body → ⊥) → ⊥
  good_body (Changes changes) is wrong = (bad tables position.flight changes before p q (λ defined. wrong (defined, tt))).0 after is
  good_body (Widen table width) is wrong = wrong (no_changes_defined tables (base position.flight before), is.0.may)

  -- the picker doesn't stop at it
  goes_on : (body : Body) (conflict : Conflict) → PicksOnce picks → IsPulledBody picks tables position.flight body before after p q → StopsTaking picks tables position.flight (changes_of_body body) before p conflict r → ⊥
  goes_on (Changes changes) conflict once is stops = stop tables position.flight changes before after p q r conflict once is stops
  goes_on (Widen table width) conflict once is stops = plain_stop picks tables position.flight (Widen table width) before p conflict r stops

module _ {P : Type 0} (picks : P → Clash → Wish → P → Type 0) (bad : BadIsNeither picks) (stop : NoStopWhereTaken picks) (tables : List TableDef) (position : Position) (entry : LogEntry) (before after : View) (p q r : P) where
  pub bad_or_pull : IsBad tables position entry before → PullsOne picks tables position entry before p after q → ⊥
  bad_or_pull (inl last) (room, how) = absurd (omega (arith, last, room))
  bad_or_pull (inr (others, undefined)) (room, inl (own, same, asked)) = others own
  bad_or_pull (inr (others, undefined)) (room, inr (away, takes)) = good_body picks bad stop tables position before after p q r entry.body takes undefined

  pub stop_or_pull : (conflict : Conflict) → PicksOnce picks → StopsPull picks tables position entry before p conflict r → PullsOne picks tables position entry before p after q → ⊥
  stop_or_pull conflict once stops (room, inl (own, same, asked)) = stops.others own
  stop_or_pull conflict once stops (room, inr (away, takes)) = goes_on picks bad stop tables position before after p q r entry.body conflict once takes stops.stops

pub no_fault : {P : Type 0} (picks : P → Clash → Wish → P → Type 0) → BadIsNeither picks → NoStopWhereTaken picks → NoPullFaultWherePulled picks
no_fault picks bad stop tables position entry before after Memory p q r once of pulls wrong = absurd (of.0 refl)
no_fault picks bad stop tables position entry before after Behind p q r once of pulls wrong = absurd (omega (arith, wrong.0))
no_fault picks bad stop tables position entry before after Gap p q r once of pulls wrong = absurd (omega (arith, wrong.0))
no_fault picks bad stop tables position entry before after BadEntry p q r once of pulls wrong = bad_or_pull picks bad stop tables position entry before after p q r wrong.1 pulls
no_fault picks bad stop tables position entry before after (Stopped conflict) p q r once of pulls wrong = stop_or_pull picks bad stop tables position entry before after p q r conflict once wrong.1 pulls
no_fault picks bad stop tables position entry before after Device p q r once of pulls wrong = absurd (of.1 refl)
