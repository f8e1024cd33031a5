-- A pull of what is known has a result, and there is what it leaves.
use Rattle.std.proofs.Common.{◌≡◌, ◌+◌, ◌-◌, ◌<◌, ◌^◌, ℕ, zero, suc, List, [], ◌∷◌, length, Some, Ok, Err, refl, arith, inl, inr}
use Rattle.std.specs.Prelude.{◌⊎◌, Result, slice_get}
use Rattle.std.specs.FinMap.{len}
use Rattle.cs_value.specs.Catalog.{AreTables}
use Rattle.cs_value.specs.declared.catalog.TableDef.{TableDef}
use Rattle.cs_store.specs.log.Log.{catalog_after}
use Rattle.cs_store.specs.declared.log.entry.LogEntry.{LogEntry}
use Rattle.cs_store.specs.Contents.{Contents}
use Rattle.cs_conflict.specs.declared.clash.Clash.{Clash}
use Rattle.cs_conflict.specs.declared.wish.Wish.{Wish}
use Rattle.cs_pending.specs.View.{View}
use Rattle.cs_pending.specs.position.Shows.{ShowsAt}
use Rattle.cs_pending.specs.declared.position.position.Position.{Position}
use Rattle.cs_exchange.specs.pulling.Laws.{IsOfEntry, PulledOrRefused}
use Rattle.cs_exchange.specs.pulling.Pulls.{IsPullFault, IsPulledIn}
use Rattle.cs_exchange.specs.declared.pulling.fault.PullFault.{PullFault}
use Rattle.cs_exchange.specs.declared.pulling.fault.PullFault.TheVariants as pull
use Rattle.cs_exchange.specs.taking.Laws.{AnswersLawfully}
use Rattle.cs_exchange.specs.taking.Takes.{taken}
use Rattle.cs_widening.specs.Laws.{WidenedAreTables}
use Rattle.cs_nodes.specs.following.Laws.{AreNormal, IsOfEntries, KnownPullHasResult}
use Rattle.cs_nodes.specs.following.Pulls.{PullsAll, PullsKnown}
use Rattle.cs_nodes.specs.declared.following.fault.NodeFault.{NodeFault}
use Rattle.cs_nodes.specs.declared.following.fault.NodeFault.TheVariants.{BadEntry, Stopped}
use Rattle.cs_nodes.proofs.FollowingLemmas.Along.{known_more, known_none}
use Rattle.cs_nodes.proofs.FollowingLemmas.Stood.{next_tables}

-- the entry at a place within
there_is : (known : List LogEntry) (at : ℕ) → at < length known → (entry : LogEntry) × (slice_get known at ≡ Some entry)
there_is [] at less = absurd (omega (arith, less))
there_is (x ∷ known) zero less = (x, refl)
there_is (x ∷ known) (suc at) less = there_is known at (omega (arith, less))

module _ {P : Type 0} (picks : P → Clash → Wish → P → Type 0) (is_ready : P → Type 0) (law : PulledOrRefused picks is_ready) (wide_tables : WidenedAreTables) (tables : List TableDef) (known : List LogEntry) (normal : AreNormal known)
    (short : length known < 2 ^ 64) (lawful : AnswersLawfully picks is_ready) (begun : Position) (first : View) (p : P) where
  abbrev Result_ : Type 0
  Result_ = (result : Result ℕ NodeFault) × (others : List TableDef) × (other : Position) × (new : Contents) × (q : P) × IsOfEntries result × PullsAll picks tables known result begun first p others other new q

  refused : (fault : PullFault) (now : List TableDef) (position : Position) (store : Contents) (view : View) (entry : LogEntry) (q r : P) → ShowsAt now store position view → PullsKnown picks tables known begun first p now position view q
      → slice_get known position.version ≡ Some entry → IsOfEntry fault → IsPullFault picks now position position.version entry view q r fault → Result_
  refused pull.Memory now position store view entry q r shows so_far here of told = absurd (of.0 refl)
  refused pull.Device now position store view entry q r shows so_far here of told = absurd (of.1 refl)
  refused pull.Behind now position store view entry q r shows so_far here of told = absurd (omega (arith, told.0))
  refused pull.Gap now position store view entry q r shows so_far here of told = absurd (omega (arith, told.0))
  refused pull.BadEntry now position store view entry q r shows so_far here of (is, bad, asked) =
      (Err BadEntry, now, position, store, r, tt, (view, q, so_far, shows, (entry, here, (bad, asked))))
  refused (pull.Stopped conflict) now position store view entry q r shows so_far here of (is, stops) =
      (Err (Stopped conflict), now, position, store, r, tt, (view, q, so_far, shows, (entry, here, stops)))

  -- what follows the next entry, by what follows all that are left behind it
  next : (left : ℕ) (now : List TableDef) → AreTables now → (position : Position) (store : Contents) (view : View) (q : P) → suc left + position.version ≡ length known → ShowsAt now store position view
      → PullsKnown picks tables known begun first p now position view q
      → ((wide : List TableDef) → AreTables wide → (at : Position) (held : Contents) (seen : View) (r : P) → left + at.version ≡ length known → ShowsAt wide held at seen → is_ready r → PullsKnown picks tables known begun first p wide at seen r → Result_)
      → (entry : LogEntry) → slice_get known position.version ≡ Some entry
      → ((new : Contents) × (r : P) × (position.version ≡ position.version) × IsPulledIn picks now position entry q r store new × is_ready r)
      ⊎ ((fault : PullFault) × (r : P) × IsOfEntry fault × IsPullFault picks now position position.version entry view q r fault)
      → Result_
  next left now are position store view q counted shows so_far further entry here (inl (new, r, same, pulled, ready)) =
      let after = pulled view shows in
      further (catalog_after now entry.body) (next_tables wide_tables picks now position view after.0 q r are entry after.2) (taken position (len new.pending)) new after.0 r (omega (arith, counted)) after.1 ready
      (known_more picks tables known begun first p now position view q so_far entry here (len new.pending) new after.0 r after.2 after.1)
  next left now are position store view q counted shows so_far further entry here (inr (fault, r, of, told)) = refused fault now position store view entry q r shows so_far here of told

  -- so many are left
  onwards : (left : ℕ) (now : List TableDef) → AreTables now → (position : Position) (store : Contents) (view : View) (q : P) → left + position.version ≡ length known → ShowsAt now store position view → is_ready q
      → PullsKnown picks tables known begun first p now position view q → Result_
  onwards zero now are position store view q counted shows ready so_far =
      let level : position.version ≡ length known = omega (arith, counted) in
      (Ok (position.version - begun.version), now, position, store, q, tt, (view, q, so_far, shows, (level, omega (arith, so_far.onwards), refl)))
  onwards (suc left) now are position store view q counted shows ready so_far =
      let less : position.version < length known = omega (arith, counted) in
      let entry = there_is known position.version less in
      next left now are position store view q counted shows so_far (λ wide are' at held seen r is shown ready' pulls. onwards left wide are' at held seen r is shown ready' pulls) entry.0 entry.1
      (law now store position position.version entry.0 view q are (normal position.version entry.0 entry.1) (omega (arith, less, short)) shows lawful ready)

pub known_some : {P : Type 0} (picks : P → Clash → Wish → P → Type 0) (is_ready : P → Type 0) → PulledOrRefused picks is_ready → WidenedAreTables → KnownPullHasResult picks is_ready
known_some picks is_ready law wide_tables tables known old position before p are normal short within shows lawful ready =
    onwards picks is_ready law wide_tables tables known normal short lawful position before p (length known - position.version) tables are position old before p (omega (arith, within)) shows ready
    (known_none picks tables known position before p within)
