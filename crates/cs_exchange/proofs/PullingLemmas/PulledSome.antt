-- An entry is pulled, or has a fault.
use Rattle.std.proofs.Common.{◌≡◌, ◌<◌, ◌≤◌, ◌+◌, ◌⊎◌, ℕ, List, Option, Some, None, refl, sym, ap, subst, ◌∙◌, arith, inl, inr}
use Rattle.std.specs.Prelude.{◌-◌, ◌^◌}
use Rattle.std.specs.FinMap.{len}
use Rattle.std.proofs.lemmas.Bool.{cases_lt}
use Rattle.std.proofs.lemmas.Bool.Decides.{eqb_tells}
use Rattle.cs_value.specs.Catalog.{AreTables}
use Rattle.cs_value.specs.Decided.{OrNot, same_bytes_or_not}
use Rattle.cs_value.specs.declared.catalog.TableDef.{TableDef}
use Rattle.cs_normal.specs.Normal.{IsNormalChangeset}
use Rattle.cs_normal.specs.State.{DefinedIsApplied, IsDefinedOn, NetIsApplied}
use Rattle.cs_normal.specs.declared.normal.TableChanges.{TableChanges}
use Rattle.cs_store.specs.log.Entry.{MayWiden, changes_of_body, entry_changes}
use Rattle.cs_store.specs.log.Laws.{DefinedOrNot, NextOrNot, OneBody}
use Rattle.cs_store.specs.log.Stored.{AreChangesOf, stored_body}
use Rattle.cs_store.specs.declared.log.body.Body.{Body}
use Rattle.cs_store.specs.declared.log.body.Body.TheVariants.{Changes, Widen}
use Rattle.cs_store.specs.declared.log.entry.LogEntry.{LogEntry}
use Rattle.cs_store.specs.Contents.{Contents}
use Rattle.cs_conflict.specs.declared.clash.Clash.{Clash}
use Rattle.cs_conflict.specs.declared.conflict.Conflict.{Conflict}
use Rattle.cs_conflict.specs.declared.wish.Wish.{Wish}
use Rattle.cs_pending.specs.View.{View, middle}
use Rattle.cs_pending.specs.position.Shows.{ShowsAt, base, flown}
use Rattle.cs_pending.specs.declared.position.position.Position.{Position}
use Rattle.cs_exchange.specs.taking.Laws.{AnswersLawfully, NextIsShown, TakenInOrStopped, WidenCanBeTaken}
use Rattle.cs_exchange.specs.taking.Takes.{IsTakenIn, StopsTaking, taken}
use Rattle.cs_exchange.specs.pulling.Laws.{IsOfEntry, PulledOrRefused}
use Rattle.cs_exchange.specs.pulling.Pulls.{IsOwn, IsPullFault, IsPulledIn, IsTakenBody}
use Rattle.cs_exchange.specs.declared.pulling.fault.PullFault.{PullFault}
use Rattle.cs_exchange.specs.declared.pulling.fault.PullFault.TheVariants.{Behind, Gap, BadEntry, Stopped}
use Rattle.cs_exchange.proofs.PullingLemmas.Bodies.{may_or_not, own_catalog, own_flies}
use Rattle.cs_exchange.proofs.PullingLemmas.Leading.{own_leads}

-- ---- whether it is the push that is under way

pub same_number : (a b : ℕ) → OrNot (a ≡ b)
same_number a b = elim (eqb_tells a b) [ inl (e, is) ↦ inl is | inr (e, ne) ↦ inr ne ]

module _ (one_body : OneBody) (tables : List TableDef) (are : AreTables tables) (position : Position) (entry : LogEntry) (its : List TableChanges) (of : AreChangesOf tables its) (is_body : entry.body ≡ Changes its) where
  own_with : (changes : List TableChanges) → position.flight ≡ Some changes → changes ≡ its → OrNot (entry.origin ≡ position.id) → OrNot (entry.number ≡ position.number) → OrNot (IsOwn position entry)
  own_with changes is same (inl origin) (inl number) = inl (record { changes = its; body = is_body; under_way = is ∙ ap (λ (c : List TableChanges). Some c) same; from_here = origin; last = number })
  own_with changes is same (inl origin) (inr other) = inr (λ own. other own.last)
  own_with changes is same (inr other) number = inr (λ own. other own.from_here)

  by_changes : (changes : List TableChanges) → position.flight ≡ Some changes → OrNot (stored_body (Changes changes) ≡ stored_body (Changes its)) → AreChangesOf tables changes → OrNot (IsOwn position entry)
  by_changes changes is (inl same) fits =
      own_with changes is (ap changes_of_body (one_body tables (Changes changes) (Changes its) are fits of tt tt same)) (same_number entry.origin position.id) (same_number entry.number position.number)
  by_changes changes is (inr other) fits =
      inr (λ own.
      let same : changes ≡ entry_changes entry = (let e = sym is ∙ own_flies position entry own in cc) in
      other (ap (λ (c : List TableChanges). stored_body (Changes c)) (same ∙ ap changes_of_body is_body)))

  by_flight : (flight : Option (List TableChanges)) → position.flight ≡ flight → AreChangesOf tables (flown flight) → OrNot (IsOwn position entry)
  by_flight None is fits = inr (λ own. let e = sym is ∙ own.under_way in cc)
  by_flight (Some changes) is fits = by_changes changes is (same_bytes_or_not (stored_body (Changes changes)) (stored_body (Changes its))) fits

-- ---- pulled, or refused

module _ (defined_or_not : DefinedOrNot) (next_or_not : NextOrNot) (one_body : OneBody) (net_is_applied : NetIsApplied) (defined_is_applied : DefinedIsApplied) (next : NextIsShown) (widened : WidenCanBeTaken)
    {P : Type 0} (picks : P → Clash → Wish → P → Type 0) (is_ready : P → Type 0)
    (taken_or_stopped : TakenInOrStopped picks is_ready) (tables : List TableDef) (old : Contents) (position : Position) (index : ℕ) (entry : LogEntry) (before : View) (p : P) (are : AreTables tables) (normal : IsNormalChangeset (entry_changes entry))
    (ranged : position.version < 2 ^ 64) (shows : ShowsAt tables old position before) (answers : AnswersLawfully picks is_ready) (ready : is_ready p) where
  abbrev Either : Type 0
  Either =
      ((new : Contents) × (q : P) × (index ≡ position.version) × IsPulledIn picks tables position entry p q old new × is_ready q)
      ⊎ ((fault : PullFault) × (q : P) × IsOfEntry fault × IsPullFault picks tables position index entry before p q fault)

  -- the push that is under way is defined on the log's rows
  own_defined : IsOwn position entry → IsDefinedOn tables (entry_changes entry) (base position.flight before)
  own_defined own = (defined_is_applied tables (entry_changes entry) (base position.flight before)).1 (middle before, own_leads net_is_applied tables old position entry before are shows own)

  counted : (new : Contents) (view : View) → ShowsAt tables new (taken position position.pending) view → ShowsAt tables new (taken position (len new.pending)) view
  counted new view seen = subst (λ (n : ℕ). ShowsAt tables new (taken position n) view) seen.counted seen

  module _ (same : index ≡ position.version) (room : position.version < 2 ^ 64 - 1) where
    confirmed : IsOwn position entry → Either
    confirmed own =
        let left = next tables old position (position.version + 1) in
        inl (
          left.0,
          p,
          same,
          λ view seen. (
            view,
            subst (λ (ts : List TableDef). ShowsAt ts left.0 (taken position (len left.0.pending)) view) (sym (own_catalog tables position entry own)) (counted left.0 view (left.1 view seen)),
            (room, inl (own, refl, refl)),
          ),
          ready,
        )

    -- what its body is taken to, that is another's, is what it is taken to
    by_body_in : (body : Body) → entry.body ≡ body → (IsOwn position entry → ⊥) → (new : Contents) (q : P) → IsTakenBody picks tables position body p q old new → IsPulledIn picks tables position entry p q old new
    by_body_in body is others new q taken_so view seen =
        let one = (subst (λ (b : Body). IsTakenBody picks tables position b p q old new) (sym is) taken_so) view seen in
        (one.0, one.1, (room, inr (others, one.2)))

    module _ (changes : List TableChanges) (is : entry.body ≡ Changes changes) where
      its : entry_changes entry ≡ changes
      its = ap changes_of_body is

      normal_so : IsNormalChangeset changes
      normal_so = subst IsNormalChangeset its normal

      taken_there : (IsOwn position entry → ⊥)
          → ((new : Contents) × (q : P) × IsTakenIn picks tables position changes p q old new × is_ready q) ⊎ ((conflict : Conflict) × (q : P) × StopsTaking picks tables position.flight changes before p conflict q) → Either
      taken_there others (inl (new, q, taken_so, again)) = inl (new, q, same, by_body_in (Changes changes) is others new q taken_so, again)
      taken_there others (inr (conflict, q, stops)) =
          inr (
            Stopped conflict,
            q,
            (λ e. cc, λ e. cc),
            (
              same,
              record {
                room = room;
                others = others;
                stops = subst (λ (c : List TableChanges). StopsTaking picks tables position.flight c before p conflict q) (sym its) stops;
              },
            ),
          )

      by_owner : IsDefinedOn tables changes (base position.flight before) → OrNot (IsOwn position entry) → Either
      by_owner defined (inl own) = confirmed own
      by_owner defined (inr others) = taken_there others (taken_or_stopped tables old position (position.version + 1) changes before p are normal_so shows defined answers ready)

      by_defined : OrNot (IsDefinedOn tables changes (base position.flight before)) → Either
      by_defined (inl defined) =
          by_owner defined (by_flight one_body tables are position entry changes (normal_so, defined.0) is position.flight refl (shows.under_way.normal, shows.under_way.fits))
      by_defined (inr undefined) =
          let no : IsDefinedOn tables (entry_changes entry) (base position.flight before) → ⊥ = λ defined. undefined (subst (λ (c : List TableChanges). IsDefinedOn tables c (base position.flight before)) its defined) in
          inr (BadEntry, p, (λ e. cc, λ e. cc), (same, inr (λ own. no (own_defined own), λ both. no both.0), refl))

    module _ (table : List ℕ) (width : ℕ) (is : entry.body ≡ Widen table width) where
      not_own : IsOwn position entry → ⊥
      not_own own = let no = sym is ∙ own.body in cc

      widened_there : MayWiden tables (Widen table width) → Either
      widened_there may =
          let new = widened tables old position table width before are shows may in
          inl (new.0, p, same, by_body_in (Widen table width) is not_own new.0 p (λ view seen. (let one = new.1 view seen in (one.0, one.1, (one.2, refl)))), ready)

      by_may : OrNot (MayWiden tables (Widen table width)) → Either
      by_may (inl may) = widened_there may
      by_may (inr never) =
          inr (BadEntry, p, (λ e. cc, λ e. cc), (same, inr (not_own, λ both. never (subst (MayWiden tables) is both.1)), refl))

    by_body : (body : Body) → entry.body ≡ body → Either
    by_body (Changes changes) is = by_defined changes is (defined_or_not tables changes (base position.flight before))
    by_body (Widen table width) is = by_may table width is (may_or_not next_or_not tables table width)

  by_room : index ≡ position.version → (position.version < 2 ^ 64 - 1) ⊎ (2 ^ 64 - 1 ≤ position.version) → Either
  by_room same (inl room) = by_body same room entry.body refl
  by_room same (inr past) =
      let last : position.version ≡ 2 ^ 64 - 1 = omega (arith, past, ranged) in
      inr (BadEntry, p, (λ e. cc, λ e. cc), (same, inl last, refl))

  by_more : position.version ≤ index → (position.version < index) ⊎ (index ≤ position.version) → Either
  by_more least (inl more) = inr (Gap, p, (λ e. cc, λ e. cc), (more, refl))
  by_more least (inr most) = let same : index ≡ position.version = omega (arith, least, most) in by_room same (cases_lt position.version (2 ^ 64 - 1))

  by_index : (index < position.version) ⊎ (position.version ≤ index) → Either
  by_index (inl less) = inr (Behind, p, (λ e. cc, λ e. cc), (less, refl))
  by_index (inr least) = by_more least (cases_lt position.version index)

  pub either : Either
  either = by_index (cases_lt index position.version)

pub pulled_or_refused : DefinedOrNot → NextOrNot → OneBody → NetIsApplied → DefinedIsApplied → NextIsShown → WidenCanBeTaken → {P : Type 0} (picks : P → Clash → Wish → P → Type 0) (is_ready : P → Type 0) → TakenInOrStopped picks is_ready → PulledOrRefused picks is_ready
pulled_or_refused = either
