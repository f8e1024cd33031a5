-- The changeset that bytes spell, in normal form, and the body that they are stored for.
use Rattle.std.proofs.Common.{◌≡◌, ◌≢◌, ◌⊎◌, inl, inr, ℕ, ◌+◌, ◌^◌, ◌<◌, ◌≤◌, List, ◌∷◌, ◌++◌, length, take, drop, Result, Ok, Err, refl, sym, subst, ap, ◌∙◌, arith}
use Rattle.std.specs.Int.{from_be_bytes, to_be_bytes, w32}
use Rattle.std.proofs.lemmas.Nat.{from_be_bytes-to_be_bytes_4}
use Rattle.std.specs.List.{All, slice_index_or}
use Rattle.std.specs.Result.{IsErr, IsErrAnd}
use Rattle.cs_value.specs.Catalog.{AreTables}
use Rattle.cs_value.specs.declared.catalog.TableDef.{TableDef}
use Rattle.cs_change.specs.Spelling.{FitsChangeset, changeset_spelling}
use Rattle.cs_change.specs.declared.group.Group.{Group}
use Rattle.cs_changeset.specs.Laws.{ChangesetLaws}
use Rattle.cs_changeset.specs.Reading.{IsChangesetFault}
use Rattle.cs_changeset.specs.declared.fault.Fault.{Fault}
use Rattle.cs_normalising.specs.Laws.{NoFaultWhereFit, NormalAgain, OneNormalForm}
use Rattle.cs_normal.specs.Laws.{NormalIsTaken}
use Rattle.cs_normal.specs.Normal.{groups_of, normal_spelling}
use Rattle.cs_normalising.specs.NormalFormOf.{IsNormalFormOf, IsUnfit}
use Rattle.cs_normal.specs.declared.normal.TableChanges.{TableChanges}
use Rattle.cs_normalising.specs.declared.unfit.Unfit.{Unfit}
use Rattle.cs_normalising.specs.declared.unfit.Unfit.TheVariants as unfit
use Rattle.cs_store.specs.log.Entry.{MayWiden, changes_of_body, widen_spelling}
use Rattle.cs_store.specs.log.Laws.{OneBody}
use Rattle.cs_store.specs.log.Steps.{ReadsWiden, WidensTable}
use Rattle.cs_store.specs.log.Stored.{AreChangesOf, FitsBody, ReadsBody, ReadsChanges, body_fault_of_unfit, stored_body}
use Rattle.cs_store.specs.declared.log.body.Body.{Body}
use Rattle.cs_store.specs.declared.log.body.Body.TheVariants.{Changes, Widen}
use Rattle.cs_store.specs.declared.log.fault.BodyFault.{BodyFault}
use Rattle.cs_store.specs.declared.log.fault.BodyFault.TheVariants.{Memory, NoBody}

-- groups that are spelled as a normal changeset is are its groups
its_groups : ChangesetLaws → NormalIsTaken → (tables : List TableDef) (changes : List TableChanges) (groups : List Group) → AreChangesOf tables changes → FitsChangeset groups → changeset_spelling groups ≡ normal_spelling changes → groups ≡ groups_of changes
its_groups laws taken tables changes groups are fits is =
    let it = taken changes are.0 in
    laws.one groups (groups_of changes) fits it.0 (is ∙ sym it.1)

-- it is their normal form
pub its_form : ChangesetLaws → NormalIsTaken → NormalAgain → (tables : List TableDef) (changes : List TableChanges) (groups : List Group) → AreTables tables → AreChangesOf tables changes → FitsChangeset groups → changeset_spelling groups ≡ normal_spelling changes → IsNormalFormOf tables groups changes
its_form laws taken again tables changes groups is_catalog are fits is =
    subst (λ (g : List Group). IsNormalFormOf tables g changes) (sym (its_groups laws taken tables changes groups are fits is)) (again tables changes is_catalog are.0 are.1)

-- no two changesets are spelled alike
pub one_spelling : ChangesetLaws → NormalIsTaken → NormalAgain → OneNormalForm → (tables : List TableDef) (some others : List TableChanges) → AreTables tables → AreChangesOf tables some → AreChangesOf tables others → normal_spelling some ≡ normal_spelling others → some ≡ others
one_spelling laws taken again one tables some others is_catalog are also is =
    let it = taken some are.0 in
    one tables (groups_of some) some others is_catalog (again tables some is_catalog are.0 are.1)
    (its_form laws taken again tables others (groups_of some) is_catalog also it.0 (it.1 ∙ is))

-- ---- a table and its columns

unfoldable four_bytes : ℕ → List ℕ
four_bytes number = to_be_bytes w32 number

unfoldable four : List ℕ → ℕ
four bytes = from_be_bytes w32 (take 4 bytes)

four_back : (number : ℕ) (rest : List ℕ) → number < 2 ^ 32 → four (four_bytes number ++ rest) ≡ number
unfolding four four_bytes
four_back number rest fits = from_be_bytes-to_be_bytes_4 number fits

four_rest : (number : ℕ) (rest : List ℕ) → drop 4 (four_bytes number ++ rest) ≡ rest
unfolding four_bytes
four_rest number rest = refl

as_four : (table : List ℕ) (width : ℕ) → widen_spelling table width ≡ four_bytes width ++ table
unfolding four_bytes
as_four table width = refl

four_more : (width : ℕ) (table : List ℕ) → length (widen_spelling table width) ≡ 4 + length table
four_more width table = omega arith

one_widen_in : (some other : List ℕ) (width columns : ℕ) → width < 2 ^ 32 → columns < 2 ^ 32 → widen_spelling some width ≡ widen_spelling other columns → (some ≡ other) × (width ≡ columns)
one_widen_in some other width columns within inside is =
    let e : four_bytes width ++ some ≡ four_bytes columns ++ other = sym (as_four some width) ∙ is ∙ as_four other columns in (
      sym (four_rest width some) ∙ ap (drop 4) e ∙ four_rest columns other,
      sym (four_back width some within) ∙ ap four e ∙ four_back columns other inside,
    )

one_widen : (some other : List ℕ) (width columns : ℕ) → width ≤ 2000 → columns ≤ 2000 → widen_spelling some width ≡ widen_spelling other columns → (some ≡ other) × (width ≡ columns)
one_widen some other width columns within inside is = one_widen_in some other width columns (omega (arith, within)) (omega (arith, inside)) is

head_same : {k l : ℕ} {x y : List ℕ} → k ∷ x ≡ l ∷ y → k ≡ l
head_same e = cc

-- bodies of two kinds are stored apart
two_kinds : (x y : List ℕ) → 0 ∷ x ≡ 1 ∷ y → ⊥
two_kinds x y e = let h : 0 ≡ 1 = head_same e in absurd (omega (arith, h))

pub one_body : ChangesetLaws → NormalIsTaken → NormalAgain → OneNormalForm → OneBody
one_body laws taken again one tables (Changes some) (Changes others) is_catalog are also may might is =
    let spelled : normal_spelling some ≡ normal_spelling others = cc in
    ap (λ (c : List TableChanges). Changes c) (one_spelling laws taken again one tables some others is_catalog are also spelled)
one_body laws taken again one tables (Changes some) (Widen table width) is_catalog are also may might is = absurd (two_kinds (normal_spelling some) (widen_spelling table width) is)
one_body laws taken again one tables (Widen table width) (Changes some) is_catalog are also may might is = absurd (two_kinds (normal_spelling some) (widen_spelling table width) (sym is))
one_body laws taken again one tables (Widen table width) (Widen other columns) is_catalog are also may might is =
    let spelled : widen_spelling table width ≡ widen_spelling other columns = cc in
    let same = one_widen table other width columns may.4 might.4 spelled in
    ap (λ (t : List ℕ). Widen t width) same.0 ∙ ap (λ (w : ℕ). Widen other w) same.1

-- bytes with a fault spell none
pub none_at_fault : ChangesetLaws → NormalIsTaken → (tables : List TableDef) (bytes : List ℕ) (fault : Fault) (offset : ℕ) → IsChangesetFault fault offset bytes → ReadsChanges tables bytes (Err NoBody)
none_at_fault laws taken tables bytes fault offset told changes are is =
    let it = taken changes are.0 in
    laws.right (groups_of changes) fault offset it.0 (subst (λ (b : List ℕ). IsChangesetFault fault offset b) (is ∙ sym it.1) told)

-- bytes of a changeset without a normal form spell none
pub none_unfit : ChangesetLaws → NormalIsTaken → NormalAgain → NoFaultWhereFit → (tables : List TableDef) (bytes : List ℕ) (groups : List Group) (fault : Unfit) → fault ≢ unfit.Memory → AreTables tables → FitsChangeset groups → bytes ≡ changeset_spelling groups → IsUnfit fault tables groups → ReadsChanges tables bytes (Err NoBody)
none_unfit laws taken again fit tables bytes groups fault some is_catalog fits spelled wrong changes are is =
    some (fit fault tables groups is_catalog (its_form laws taken again tables changes groups is_catalog are fits (sym spelled ∙ is)).fit wrong)

pub none_by_unfit : ChangesetLaws → NormalIsTaken → NormalAgain → NoFaultWhereFit → (tables : List TableDef) (bytes : List ℕ) (groups : List Group) (fault : Unfit) (told : BodyFault) → told ≡ body_fault_of_unfit fault → AreTables tables → FitsChangeset groups → bytes ≡ changeset_spelling groups → IsUnfit fault tables groups → ReadsChanges tables bytes (Err told)
none_by_unfit laws taken again fit tables bytes groups fault told is is_catalog fits spelled wrong =
    subst (λ (f : BodyFault). ReadsChanges tables bytes (Err f)) (sym is) (by_fault fault wrong)
  where
    by_fault : (f : Unfit) → IsUnfit f tables groups → ReadsChanges tables bytes (Err (body_fault_of_unfit f))
    by_fault unfit.Memory w = tt
    by_fault unfit.UnknownTable w = none_unfit laws taken again fit tables bytes groups unfit.UnknownTable (λ m. cc) is_catalog fits spelled w
    by_fault unfit.Shape w = none_unfit laws taken again fit tables bytes groups unfit.Shape (λ m. cc) is_catalog fits spelled w
    by_fault unfit.NullKey w = none_unfit laws taken again fit tables bytes groups unfit.NullKey (λ m. cc) is_catalog fits spelled w
    by_fault unfit.KeyTwice w = none_unfit laws taken again fit tables bytes groups unfit.KeyTwice (λ m. cc) is_catalog fits spelled w

-- bytes that aren't those of the normal form spell none
pub none_unspelled : ChangesetLaws → NormalIsTaken → NormalAgain → OneNormalForm → (tables : List TableDef) (bytes : List ℕ) (groups : List Group) (form : List TableChanges) → AreTables tables → FitsChangeset groups → bytes ≡ changeset_spelling groups → IsNormalFormOf tables groups form → (normal_spelling form ≡ bytes → ⊥) → ReadsChanges tables bytes (Err NoBody)
none_unspelled laws taken again one tables bytes groups form is_catalog fits spelled normal not changes are is =
    let same : form ≡ changes = one tables groups form changes is_catalog normal (its_form laws taken again tables changes groups is_catalog are fits (sym spelled ∙ is)) in
    not (ap (λ (c : List TableChanges). normal_spelling c) same ∙ sym is)

-- ---- with the kind in front

pub none_stored : (tables : List TableDef) (bytes : List ℕ) → ReadsChanges tables bytes (Err NoBody) → ReadsBody tables (0 ∷ bytes) (Err NoBody)
none_stored tables bytes none (Changes changes) fits is = none changes fits.changes (cc)
none_stored tables bytes none (Widen table width) fits is = absurd (two_kinds bytes (widen_spelling table width) is)

pub refused_body : (tables : List TableDef) (bytes : List ℕ) (fault : BodyFault) → ReadsChanges tables bytes (Err fault) → ReadsBody tables (0 ∷ bytes) (Err fault)
refused_body tables bytes Memory none = tt
refused_body tables bytes NoBody none = none_stored tables bytes none

pub none_widened : (tables : List TableDef) (bytes : List ℕ) → ReadsWiden tables bytes (Err NoBody) → ReadsBody tables (1 ∷ bytes) (Err NoBody)
none_widened tables bytes none (Changes changes) fits is = absurd (two_kinds (normal_spelling changes) bytes (sym is))
none_widened tables bytes none (Widen table width) fits is = none table width fits.widens (cc)

-- this body is read, or memory is wanting
abbrev ReadIs : Result Body BodyFault → Body → Type 0
ReadIs result body = (result ≡ Ok body) ⊎ (result ≡ Err Memory)

-- what was read is all that there is
pub only_body : OneBody → (tables : List TableDef) (bytes : List ℕ) (read : Body) → AreTables tables → AreChangesOf tables (changes_of_body read) → MayWiden tables read → bytes ≡ stored_body read → (body : Body) → FitsBody tables body → bytes ≡ stored_body body → ReadIs (Ok read) body
only_body one tables bytes read is_catalog are may is body also stored = inl (ap (λ (b : Body). Ok b) (one tables read body is_catalog are also.changes may also.widens (sym is ∙ stored)))

-- a changeset of the tables that is spelled so is what was read, or memory is wanting
pub only_changes : ChangesetLaws → NormalIsTaken → NormalAgain → OneNormalForm → (tables : List TableDef) (bytes : List ℕ) (result : Result (List TableChanges) BodyFault) → AreTables tables → ReadsChanges tables bytes result
    → (changes : List TableChanges) → AreChangesOf tables changes → bytes ≡ normal_spelling changes → (result ≡ Ok changes) ⊎ (result ≡ Err Memory)
only_changes laws taken again one tables bytes (Ok read) is_catalog reads changes are is =
    inl (ap (λ (c : List TableChanges). Ok c) (one_spelling laws taken again one tables read changes is_catalog reads.0 are (sym reads.1 ∙ is)))
only_changes laws taken again one tables bytes (Err Memory) is_catalog reads changes are is = inr refl
only_changes laws taken again one tables bytes (Err NoBody) is_catalog reads changes are is = absurd (reads changes are is)

-- what a fault on the way is told as
pub told_as : (tables : List TableDef) (bytes : List ℕ) (result : Result (List TableChanges) BodyFault) (told : BodyFault) → IsErr result → IsErrAnd result (λ e. e ≡ told) → ReadsChanges tables bytes (Err told) → ReadsChanges tables bytes result
told_as tables bytes (Ok changes) told is and none = cc
told_as tables bytes (Err fault) told is and none = subst (λ (f : BodyFault). ReadsChanges tables bytes (Err f)) (sym and) none

-- ---- a table that is widened, as read

pub found_widen : (tables : List TableDef) (bytes name : List ℕ) (width place : ℕ) (table : TableDef) → place < length tables → slice_index_or tables place table ≡ table → WidensTable name width table → bytes ≡ widen_spelling name width → (copied : List ℕ) → copied ≡ table.name → ReadsWiden tables bytes (Ok (Widen copied width))
found_widen tables bytes name width place table within there (named, less, most) is copied same =
    (copied, width, refl, (table, (place, within, there), sym same, less, most), is ∙ ap (λ (n : List ℕ). widen_spelling n width) (sym named ∙ sym same))

pub none_narrow : (tables : List TableDef) (bytes name : List ℕ) (width : ℕ) → width < 2 ^ 32 → All (λ table. WidensTable name width table → ⊥) tables → bytes ≡ widen_spelling name width → ReadsWiden tables bytes (Err NoBody)
none_narrow tables bytes name width fits none is table columns can spelled =
    let same = one_widen_in name table width columns fits (omega (arith, can.4)) (sym is ∙ spelled) in
    let there = none can.1.0 can.0 can.1.1 in
    there (subst (λ (t : TableDef). WidensTable name width t) (sym can.1.2) (can.2 ∙ sym same.0, subst (λ (w : ℕ). length can.0.key_marks < w) (sym same.1) can.3, subst (λ (w : ℕ). w ≤ 2000) (sym same.1) can.4))

pub too_short : (tables : List TableDef) (bytes : List ℕ) → length bytes < 4 → ReadsWiden tables bytes (Err NoBody)
too_short tables bytes short table width can spelled =
    absurd (omega (arith, short, ap length spelled, four_more width table))
