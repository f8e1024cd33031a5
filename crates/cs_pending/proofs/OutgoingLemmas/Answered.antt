-- What the bytes that were put tell of what is pending.
use Rattle.std.proofs.Common.{◌≡◌, ◌≢◌, ◌<◌, ◌≤◌, ◌++◌, ◌⊎◌, inl, inr, ℕ, List, [], ◌∷◌, length, Option, Some, Result, Ok, Err, refl, sym, ap, subst, ◌∙◌, arith}
use Rattle.cs_value.specs.declared.catalog.TableDef.{TableDef}
use Rattle.cs_normal.specs.Laws.{CatalogIsApart, FittingIsNormal}
use Rattle.cs_normal.specs.Normal.{FitsCatalog, IsNormalChangeset, normal_spelling}
use Rattle.cs_normal.specs.declared.normal.TableChanges.{TableChanges}
use Rattle.cs_store.specs.Contents.{Contents}
use Rattle.cs_store.specs.declared.log.entry.TheConstants.{MAX_CHANGESET}
use Rattle.cs_store.specs.declared.log.fault.BodyFault.{BodyFault}
use Rattle.cs_store.specs.declared.log.fault.BodyFault.TheVariants.{Memory, NoBody}
use Rattle.cs_pending.specs.OnePlace.{contained}
use Rattle.cs_pending.specs.Shows.{ShowsRows}
use Rattle.cs_pending.specs.View.{Changed, View}
use Rattle.cs_pending.specs.outgoing.Outgoing.{IsPendingOf}
use Rattle.cs_pending.specs.outgoing.Steps.{AreAppended, ArePut}
use Rattle.cs_pending.proofs.OutgoingLemmas.Gathered.{Laws, all_gathered}

-- the changeset of what is pending, as it is spelled
abbrev pub SpellsPending : List TableDef → Changed → List ℕ → Type 0
SpellsPending tables pending bytes = (changes : List TableChanges) × IsPendingOf tables pending changes × (bytes ≡ normal_spelling changes)

pub spells_pending : (all : List TableDef) → Laws all → CatalogIsApart → FittingIsNormal → (contents : Contents) (view : View) → ShowsRows all contents view → (shown : List TableDef) (begun new : List ℕ) → shown ≡ all → begun ≡ []
    → AreAppended contents 0 shown begun new → SpellsPending all view.pending new
spells_pending all laws apart fitting contents view shows shown begun new same none (bytes, is, put) =
    let g = all_gathered all laws contents view shows apart fitting bytes (contained all) (subst (λ (ts : List TableDef). ArePut contents 0 ts bytes) same put) in
    (g.0, g.1, is ∙ ap (λ (k : List ℕ). k ++ bytes) none ∙ g.2)

no_changes : (changes : List TableChanges) → length (normal_spelling changes) ≡ 0 → changes ≡ []
no_changes [] e = refl
no_changes (table ∷ changes) e = absurd (omega (arith, e))

-- no bytes: nothing is pending
pub nothing_pending : (tables : List TableDef) (pending : Changed) (bytes : List ℕ) → length bytes ≡ 0 → SpellsPending tables pending bytes → IsPendingOf tables pending []
nothing_pending tables pending bytes none (changes, is, spelled) =
    subst (λ (cs : List TableChanges). IsPendingOf tables pending cs) (no_changes changes (ap length (sym spelled) ∙ none)) is

pub too_large : (tables : List TableDef) (pending : Changed) (bytes : List ℕ) → MAX_CHANGESET < length bytes → SpellsPending tables pending bytes
    → (changes : List TableChanges) × IsPendingOf tables pending changes × (MAX_CHANGESET < length (normal_spelling changes))
too_large tables pending bytes more (changes, is, spelled) = (changes, is, subst (λ (bs : List ℕ). MAX_CHANGESET < length bs) spelled more)

-- what is read is what is pending
pub read_pending : (tables : List TableDef) (pending : Changed) (bytes : List ℕ) (read : Option (List TableChanges)) → (length bytes ≡ 0 → ⊥) → length bytes ≤ MAX_CHANGESET
    → ((changes : List TableChanges) → IsNormalChangeset changes → FitsCatalog tables changes → bytes ≡ normal_spelling changes → read ≡ Some changes)
    → SpellsPending tables pending bytes
    → (changes : List TableChanges) × (read ≡ Some changes) × IsPendingOf tables pending changes × (changes ≢ []) × (length (normal_spelling changes) ≤ MAX_CHANGESET)
read_pending tables pending bytes read some within only (changes, is, spelled) =
    let long : length bytes ≡ length (normal_spelling changes) = ap length spelled in (
      changes,
      only changes is.normal is.fits spelled,
      is,
      (λ e. some (long ∙ ap (λ (cs : List TableChanges). length (normal_spelling cs)) e)),
      subst (λ (bs : List ℕ). length bs ≤ MAX_CHANGESET) spelled within,
    )

-- changes that were read, or weren't
pub read_is : (read changes : List TableChanges) → (◌≡◌ {A = Result (List TableChanges) BodyFault} (Ok read) (Ok changes)) ⊎ (◌≡◌ {A = Result (List TableChanges) BodyFault} (Ok read) (Err Memory)) → read ≡ changes
read_is read changes (inl e) = let f = e in cc
read_is read changes (inr e) = absurd (let no = e in cc)

pub not_refused : (changes : List TableChanges) → (◌≡◌ {A = Result (List TableChanges) BodyFault} (Err NoBody) (Ok changes)) ⊎ (◌≡◌ {A = Result (List TableChanges) BodyFault} (Err NoBody) (Err Memory)) → ⊥
not_refused changes (inl e) = absurd (let no = e in cc)
not_refused changes (inr e) = absurd (let no = e in cc)

pub same_read : (read : Option (List TableChanges)) (some other : List TableChanges) → read ≡ Some some → read ≡ Some other → some ≡ other
same_read read some other e f = let g = sym e ∙ f in cc
