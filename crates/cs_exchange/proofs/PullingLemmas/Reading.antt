-- Bytes are read as one changeset, or can't be, and an answer's entry as one entry of the log.
use Rattle.std.proofs.Common.{◌≡◌, ◌⊎◌, ℕ, List, ◌∷◌, sym, ap, ap₂, subst, ◌∙◌, inl, inr}
use Rattle.std.specs.Prelude.{◌≢◌}
use Rattle.cs_value.specs.Catalog.{AreTables}
use Rattle.cs_value.specs.declared.catalog.TableDef.{TableDef}
use Rattle.cs_change.specs.Spelling.{FitsChangeset, changeset_spelling}
use Rattle.cs_change.specs.declared.group.Group.{Group}
use Rattle.cs_changeset.specs.Laws.{ChangesetOrFault, NoFaultAtChangeset, OneChangeset}
use Rattle.cs_changeset.specs.Reading.{HasFault, IsChangesetFault}
use Rattle.cs_normalising.specs.Laws.{FormOrUnfit, NoFaultWhereFit, OneNormalForm}
use Rattle.cs_normalising.specs.NormalFormOf.{IsNormalFormOf, IsUnfit}
use Rattle.cs_normal.specs.declared.normal.TableChanges.{TableChanges}
use Rattle.cs_normalising.specs.declared.unfit.Unfit.{Unfit}
use Rattle.cs_normalising.specs.declared.unfit.Unfit.TheVariants.{Memory}
use Rattle.cs_store.specs.log.Entry.{kind_of}
use Rattle.cs_store.specs.log.Laws.{OneBody}
use Rattle.cs_store.specs.declared.log.body.Body.{Body}
use Rattle.cs_store.specs.declared.log.body.Body.TheVariants.{Changes, Widen}
use Rattle.cs_store.specs.declared.log.entry.LogEntry.{LogEntry}
use Rattle.cs_exchange.specs.pulling.Laws.{FormOrNot, OneForm, OneRead}
use Rattle.cs_exchange.specs.pulling.Told.{IsFormOf, IsReadBody}

-- the entry of these
entry_with : ℕ → ℕ → Body → LogEntry
entry_with origin number body = record { origin = origin; number = number; body = body }

pub one_entry : (some other : LogEntry) → some.origin ≡ other.origin → some.number ≡ other.number → some.body ≡ other.body → some ≡ other
unfolding entry_with
one_entry some other origin number bodies =
    ap₂ (λ (o n : ℕ). entry_with o n some.body) origin number
    ∙ ap (λ (b : Body). entry_with other.origin other.number b) bodies

-- bytes spell one changeset, which has one normal form
pub one_form : OneChangeset → OneNormalForm → OneForm
one_form one form tables bytes some other are is so =
    let groups : is.groups ≡ so.groups = one is.groups so.groups is.fits so.fits (sym is.spelled ∙ so.spelled) in
    form tables so.groups some other are (subst (λ (gs : List Group). IsNormalFormOf tables gs some) groups is.form) so.form

-- and one table with its columns
pub one_read_body : OneForm → OneBody → (tables : List TableDef) (bytes : List ℕ) (some other : Body) → AreTables tables → kind_of some ≡ kind_of other → IsReadBody tables bytes some → IsReadBody tables bytes other → some ≡ other
one_read_body law one tables bytes (Changes some) (Changes other) are kind is so = ap (λ (c : List TableChanges). Changes c) (law tables bytes some other are is so)
one_read_body law one tables bytes (Changes changes) (Widen table width) are kind is so = absurd (let no = kind in cc)
one_read_body law one tables bytes (Widen table width) (Changes changes) are kind is so = absurd (let no = kind in cc)
one_read_body law one tables bytes (Widen table width) (Widen name columns) are kind is so =
    one tables (Widen table width) (Widen name columns) are (tt, tt) (tt, tt) is.0 so.0 (ap (λ (b : List ℕ). 1 ∷ b) (sym is.1 ∙ so.1))

pub one_read : OneForm → OneBody → OneRead
one_read law one tables told some other are is so =
    one_entry some other (sym is.origin ∙ so.origin) (sym is.number ∙ so.number) (one_read_body law one tables told.body some.body other.body are (sym is.kind ∙ so.kind) is.read so.read)

-- a changeset that is refused has no normal form
pub not_form : NoFaultWhereFit → OneChangeset → (tables : List TableDef) → AreTables tables → (bytes : List ℕ) (groups : List Group) → FitsChangeset groups → bytes ≡ changeset_spelling groups
    → (fault : Unfit) → fault ≢ Memory → IsUnfit fault tables groups → (changes : List TableChanges) → IsFormOf tables bytes changes → ⊥
not_form none one tables are bytes groups fits spelled fault other unfit changes is =
    let same : is.groups ≡ groups = one is.groups groups is.fits fits (sym is.spelled ∙ spelled) in
    other (none fault tables groups are (subst (λ (gs : List Group). IsNormalFormOf tables gs changes) same is.form).fit unfit)

-- bytes are read as changes, or can't be
module _ (found : ChangesetOrFault) (one : OneChangeset) (right : NoFaultAtChangeset) (form_or_unfit : FormOrUnfit) (no_fault : NoFaultWhereFit) (tables : List TableDef) (bytes : List ℕ) (are : AreTables tables) where
  abbrev Reads : Type 0
  Reads = ((changes : List TableChanges) × IsFormOf tables bytes changes) ⊎ ((changes : List TableChanges) → IsFormOf tables bytes changes → ⊥)

  by_form : (groups : List Group) → FitsChangeset groups → bytes ≡ changeset_spelling groups
      → ((form : List TableChanges) × IsNormalFormOf tables groups form) ⊎ ((fault : Unfit) × (fault ≢ Memory) × IsUnfit fault tables groups) → Reads
  by_form groups fits is (inl (form, of)) = inl (form, record { groups = groups; fits = fits; spelled = is; form = of })
  by_form groups fits is (inr (fault, some, wrong)) = inr (not_form no_fault one tables are bytes groups fits is fault some wrong)

  by_bytes : ((groups : List Group) × FitsChangeset groups × (bytes ≡ changeset_spelling groups)) ⊎ HasFault IsChangesetFault bytes → Reads
  by_bytes (inl (groups, fits, is)) = by_form groups fits is (form_or_unfit tables groups are fits)
  by_bytes (inr (fault, offset, wrong)) =
      inr (λ changes form. right form.groups fault offset form.fits (subst (λ (bs : List ℕ). IsChangesetFault fault offset bs) form.spelled wrong))

pub form_or_not : ChangesetOrFault → OneChangeset → NoFaultAtChangeset → FormOrUnfit → NoFaultWhereFit → FormOrNot
form_or_not found one right form_or_unfit no_fault tables bytes are small = by_bytes found one right form_or_unfit no_fault tables bytes are (found bytes small)
