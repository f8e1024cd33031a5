-- Entries that are told at once are taken, or have a fault.
use Rattle.std.proofs.Common.{◌≡◌, ◌<◌, ◌≤◌, ◌+◌, ◌⊎◌, ℕ, List, Result, Ok, Err, refl, subst, arith, inl, inr}
use Rattle.std.specs.Prelude.{◌-◌}
use Rattle.std.specs.FinMap.{len}
use Rattle.std.proofs.lemmas.Bool.{cases_lt}
use Rattle.cs_value.specs.Catalog.{AreTables}
use Rattle.cs_value.specs.Decided.{OrNot}
use Rattle.cs_value.specs.declared.catalog.TableDef.{TableDef}
use Rattle.cs_normal.specs.Normal.{IsNormalChangeset}
use Rattle.cs_normal.specs.State.{IsDefinedOn}
use Rattle.cs_normal.specs.declared.normal.TableChanges.{TableChanges}
use Rattle.cs_store.specs.log.Laws.{DefinedOrNot}
use Rattle.cs_store.specs.Contents.{Contents}
use Rattle.cs_conflict.specs.declared.clash.Clash.{Clash}
use Rattle.cs_conflict.specs.declared.conflict.Conflict.{Conflict}
use Rattle.cs_conflict.specs.declared.wish.Wish.{Wish}
use Rattle.cs_pending.specs.View.{View}
use Rattle.cs_pending.specs.position.Shows.{ShowsAt, base}
use Rattle.cs_pending.specs.declared.position.position.Position.{Position}
use Rattle.cs_exchange.specs.taking.Laws.{AnswersLawfully, TakenInOrStopped}
use Rattle.cs_exchange.specs.taking.Takes.{IsTakenTo, StopsTaking, brought}
use Rattle.cs_exchange.specs.pulling.Laws.{FormOrNot, IsOfEntry, IsOfList, MergedOrRefused, OneForm, ToldHasResult}
use Rattle.cs_exchange.specs.pulling.Merged.{IsBadMerged, IsGoodMerged, IsMergeFault, TakesTold}
use Rattle.cs_exchange.specs.pulling.Told.{IsFormOf}
use Rattle.cs_exchange.specs.declared.pulling.fault.AnswerFault.{AnswerFault}
use Rattle.cs_exchange.specs.declared.pulling.fault.AnswerFault.TheVariants as list
use Rattle.cs_exchange.specs.declared.pulling.fault.PullFault.{PullFault}
use Rattle.cs_exchange.specs.declared.pulling.fault.PullFault.TheVariants.{Memory, Behind, Gap, BadEntry, Stopped, Device}
use Rattle.cs_exchange.specs.declared.pulling.listing.Pulled.{Pulled}
use Rattle.cs_exchange.specs.declared.pulling.listing.Pulled.TheVariants as pulled

-- ---- changes

module _ (defined_or_not : DefinedOrNot) {P : Type 0} (picks : P → Clash → Wish → P → Type 0) (is_ready : P → Type 0) (taken_or_stopped : TakenInOrStopped picks is_ready) (tables : List TableDef) (old : Contents) (position : Position)
    (first next : ℕ) (changes : List TableChanges) (before : View) (p : P) (are : AreTables tables) (normal : IsNormalChangeset changes) (shows : ShowsAt tables old position before) (answers : AnswersLawfully picks is_ready) (ready : is_ready p) where
  abbrev Either : Type 0
  Either =
      ((new : Contents) × (q : P) × (first ≡ position.version) × (first < next) × IsTakenTo picks tables position next changes p q old new × is_ready q)
      ⊎ ((fault : PullFault) × (q : P) × IsOfEntry fault × IsMergeFault picks tables position first next changes before p q fault)

  module _ (same : first ≡ position.version) where
    taken_there : position.version < next
        → ((new : Contents) × (q : P) × IsTakenTo picks tables position next changes p q old new × is_ready q) ⊎ ((conflict : Conflict) × (q : P) × StopsTaking picks tables position.flight changes before p conflict q) → Either
    taken_there above (inl (new, q, is, again)) = inl (new, q, same, omega (arith, same, above), is, again)
    taken_there above (inr (conflict, q, stops)) = inr (Stopped conflict, q, (λ e. cc, λ e. cc), (same, above, stops))

    by_defined : position.version < next → OrNot (IsDefinedOn tables changes (base position.flight before)) → Either
    by_defined above (inl defined) = taken_there above (taken_or_stopped tables old position next changes before p are normal shows defined answers ready)
    by_defined above (inr undefined) = inr (BadEntry, p, (λ e. cc, λ e. cc), (same, inr undefined, refl))

    by_next : (position.version < next) ⊎ (next ≤ position.version) → Either
    by_next (inl above) = by_defined above (defined_or_not tables changes (base position.flight before))
    by_next (inr below) = inr (BadEntry, p, (λ e. cc, λ e. cc), (same, inl below, refl))

  by_more : position.version ≤ first → (position.version < first) ⊎ (first ≤ position.version) → Either
  by_more least (inl more) = inr (Gap, p, (λ e. cc, λ e. cc), (more, refl))
  by_more least (inr most) = let same : first ≡ position.version = omega (arith, least, most) in by_next same (cases_lt position.version next)

  by_first : (first < position.version) ⊎ (position.version ≤ first) → Either
  by_first (inl less) = inr (Behind, p, (λ e. cc, λ e. cc), (less, refl))
  by_first (inr least) = by_more least (cases_lt position.version first)

  either : Either
  either = by_first (cases_lt first position.version)

pub merged_or_refused : DefinedOrNot → {P : Type 0} (picks : P → Clash → Wish → P → Type 0) (is_ready : P → Type 0) → TakenInOrStopped picks is_ready → MergedOrRefused picks is_ready
merged_or_refused = either

-- ---- bytes

module _ (one_form : OneForm) {P : Type 0} (picks : P → Clash → Wish → P → Type 0) (is_ready : P → Type 0) (merges : MergedOrRefused picks is_ready) (tables : List TableDef) (next : ℕ) (bytes : List ℕ) (old : Contents) (position : Position)
    (before : View) (p : P) (are : AreTables tables) (above : position.version < next) (shows : ShowsAt tables old position before) (answers : AnswersLawfully picks is_ready) (ready : is_ready p) where
  abbrev Ended : Type 0
  Ended =
      (result : Result Pulled AnswerFault) × (other : Position) × (new : Contents) × (q : P) × IsOfList result × TakesTold picks tables next bytes result position before p other new q

  module _ (changes : List TableChanges) (form : IsFormOf tables bytes changes) where
    -- where these are bad, none that the bytes spell are good
    none_good : IsBadMerged tables position next changes before → IsGoodMerged tables position bytes before → ⊥
    none_good (inl below) good = absurd (omega (arith, below, above))
    none_good (inr undefined) (others, other, defined) =
        undefined (subst (λ (cs : List TableChanges). IsDefinedOn tables cs (base position.flight before)) (one_form tables bytes others changes are other form) defined)

    by_fault : (fault : PullFault) (q : P) → IsOfEntry fault → IsMergeFault picks tables position position.version next changes before p q fault → Ended
    by_fault Memory q of wrong = absurd (of.0 refl)
    by_fault Behind q of wrong = absurd (omega (arith, wrong.0))
    by_fault Gap q of wrong = absurd (omega (arith, wrong.0))
    by_fault BadEntry q of wrong = (Err (list.BadEntry 0), position, old, q, tt, (refl, none_good wrong.1, wrong.2, (refl, shows)))
    by_fault (Stopped conflict) q of wrong = (Ok (pulled.Stopped 0), position, old, q, tt, (refl, changes, conflict, form, wrong.2, (refl, shows)))
    by_fault Device q of wrong = absurd (of.1 refl)

    by_merge : ((new : Contents) × (q : P) × (position.version ≡ position.version) × (position.version < next) × IsTakenTo picks tables position next changes p q old new × is_ready q)
        ⊎ ((fault : PullFault) × (q : P) × IsOfEntry fault × IsMergeFault picks tables position position.version next changes before p q fault) → Ended
    by_merge (inl (new, q, same, more, is, again)) =
        let one = is before shows in
        (Ok (pulled.Taken (next - position.version)), brought position next (len new.pending), new, q, tt, (omega (arith, above), changes, one.0, form, refl, one.1, one.2))
    by_merge (inr (fault, q, of, wrong)) = by_fault fault q of wrong

  by_form : ((changes : List TableChanges) × IsFormOf tables bytes changes) ⊎ ((changes : List TableChanges) → IsFormOf tables bytes changes → ⊥) → Ended
  by_form (inl (changes, form)) = by_merge changes form (merges tables old position position.version next changes before p are form.form.normal shows answers ready)
  by_form (inr none) = (Err (list.BadEntry 0), position, old, p, tt, (refl, λ good. none good.0 good.1, refl, (refl, shows)))

pub told_has_result : OneForm → FormOrNot → {P : Type 0} (picks : P → Clash → Wish → P → Type 0) (is_ready : P → Type 0) → MergedOrRefused picks is_ready → ToldHasResult picks is_ready
told_has_result one_form forms picks is_ready merges tables next bytes old position before p are small above shows answers ready =
    by_form one_form picks is_ready merges tables next bytes old position before p are above shows answers ready (forms tables bytes are small)
