-- Entries that widen no table.
use Rattle.std.proofs.Common.{◌≡◌, ◌+◌, ◌⊎◌, ℕ, zero, suc, List, [], ◌∷◌, take, drop, get_or, Some, slice_get, refl, sym, ap, subst, ◌∙◌, arith, inl, inr}
use Rattle.std.specs.List.{All, AllByRecursion}
use Rattle.std.proofs.Math.Seq.{take-length}
use Rattle.cs_value.specs.declared.catalog.TableDef.{TableDef}
use Rattle.cs_normal.specs.Normal.{FitsCatalog}
use Rattle.cs_store.specs.log.Entry.{WidensNone, entry_changes}
use Rattle.cs_store.specs.log.Laws.{CatalogNext}
use Rattle.cs_store.specs.log.Log.{IsLog, catalog_after, catalog_at, catalog_of}
use Rattle.cs_store.specs.log.Stored.{AreChangesOf}
use Rattle.cs_store.specs.declared.log.body.Body.{Body}
use Rattle.cs_store.specs.declared.log.body.Body.TheVariants.{Changes, Widen}
use Rattle.cs_store.specs.declared.log.entry.LogEntry.{LogEntry}
use Rattle.cs_hub.specs.catching.Catches.{IsToldAlone, NoneIsAlone}

pub widens_or_not : (body : Body) → WidensNone body ⊎ (WidensNone body → ⊥)
widens_or_not (Changes changes) = inl tt
widens_or_not (Widen table width) = inr (λ none. none)

-- such an entry leaves the tables as they are
pub kept_by : (tables : List TableDef) (body : Body) → WidensNone body → catalog_after tables body ≡ tables
kept_by tables (Changes changes) none = refl
kept_by tables (Widen table width) none = absurd none

abbrev pub IsPlain : LogEntry → Type 0
IsPlain entry = WidensNone entry.body

-- what isn't told alone is one
pub plain_of : (asker : ℕ) (entry : LogEntry) → (IsToldAlone asker entry → ⊥) → IsPlain entry
plain_of asker entry other = elim (widens_or_not entry.body) [ inl none ↦ none | inr widens ↦ absurd (other (inr widens)) ]

pub all_plain : (asker : ℕ) (entries : List LogEntry) → NoneIsAlone asker entries → All IsPlain entries
all_plain asker entries others = λ k d within. plain_of asker (get_or entries k d) (others k d within)

-- ---- their changesets are of the tables at the first of them

-- its changeset is one of the tables
abbrev pub Fits : List TableDef → LogEntry → Type 0
Fits tables entry = AreChangesOf tables (entry_changes entry)

fits_there : (opening : List TableDef) (log : List LogEntry) → IsLog opening log → (version : ℕ) (entry : LogEntry) → slice_get log version ≡ Some entry → Fits (catalog_at opening log version) entry
fits_there opening log is version entry there =
    let next = is version entry there in
    let front = take version log in
    (next.normal, subst (λ (t : List TableDef). FitsCatalog t (entry_changes entry)) (ap (catalog_of opening) (take-length front)) next.defined.0)

-- those from a version on
rest_from : (log : List LogEntry) (first : ℕ) → (drop first log ≡ []) ⊎ ((entry : LogEntry) × (slice_get log first ≡ Some entry) × (drop first log ≡ entry ∷ drop (suc first) log))
rest_from [] zero = inl refl
rest_from [] (suc first) = inl refl
rest_from (entry ∷ log) zero = inr (entry, refl, refl)
rest_from (entry ∷ log) (suc first) = rest_from log first

pub plain_fit : CatalogNext → (opening : List TableDef) (log : List LogEntry) → IsLog opening log → (count first : ℕ) → AllByRecursion IsPlain (take count (drop first log)) → AllByRecursion (Fits (catalog_at opening log first)) (take count (drop first log))
plain_fit law opening log is zero first plain = tt
plain_fit law opening log is (suc count) first plain =
    elim (rest_from log first) [
      | inl none ↦ subst (λ (es : List LogEntry). AllByRecursion (Fits (catalog_at opening log first)) (take (suc count) es)) (sym none) tt
      | inr (entry, there, rest) ↦
          let all = subst (λ (es : List LogEntry). AllByRecursion IsPlain (take (suc count) es)) rest plain in
          let next : catalog_at opening log (suc first) ≡ catalog_at opening log first =
          ap (catalog_at opening log) (let e : suc first ≡ first + 1 = omega arith in e) ∙ law opening log first entry there ∙ kept_by (catalog_at opening log first) entry.body all.0 in
          subst (λ (es : List LogEntry). AllByRecursion (Fits (catalog_at opening log first)) (take (suc count) es)) (sym rest) (
            fits_there opening log is first entry there,
            subst (λ (t : List TableDef). AllByRecursion (Fits t) (take count (drop (suc first) log))) next (plain_fit law opening log is count (suc first) all.1),
          )
    ]
