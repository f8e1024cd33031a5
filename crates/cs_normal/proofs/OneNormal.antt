-- A normal changeset is told by its changes at each place.
use Rattle.std.proofs.Common.{◌≡◌, ℕ, Bool, true, false, List, [], ◌∷◌, refl, sym, ap, ◌∙◌, inl, inr}
use Rattle.std.specs.List.{AllByRecursion, Contains}
use Rattle.std.specs.Str.{bytes_eq}
use Rattle.std.proofs.lemmas.List.Elements.{recursion_from_All, All-contains_itself}
use Rattle.cs_value.specs.declared.catalog.TableDef.{TableDef}
use Rattle.cs_normal.specs.keyed.Changes.{Changes}
use Rattle.cs_normal.specs.Laws.{OneNormal}
use Rattle.cs_normal.specs.Normal.{AreApart, IsOfTable, FitsCatalog, IsNormalChangeset, change_of, changes_in}
use Rattle.cs_normal.specs.declared.normal.TableChanges.{TableChanges}
use Rattle.cs_normal.specs.NormalFacts.{HasOtherName, are_apart, named, other_named}
use Rattle.cs_normal.proofs.OneOrder.{one_order}
use Rattle.cs_normal.proofs.Searched.{table_ordered}

-- the first table of the catalog is the first of the changeset, or none of it
data View (table : TableDef) (tables : List TableDef) : List TableChanges → Type 0 where
  takes : (first : TableChanges) (others : List TableChanges) → IsOfTable table first → FitsCatalog tables others → View table tables (first ∷ others)
  passes : (normal : List TableChanges) → FitsCatalog tables normal → View table tables normal

empty_fits : (tables : List TableDef) → FitsCatalog tables []
empty_fits [] = tt
empty_fits (table ∷ tables) = tt

view : (table : TableDef) (tables : List TableDef) (normal : List TableChanges) → FitsCatalog (table ∷ tables) normal → View table tables normal
view table tables [] fits = passes [] (empty_fits tables)
view table tables (first ∷ others) fits =
    elim fits [
      | inl here ↦ takes first others here.0 here.1
      | inr behind ↦ passes (first ∷ others) behind
    ]

-- a name that no table has has no changes
absent : (table : TableDef) (tables : List TableDef) (normal : List TableChanges) → AllByRecursion (HasOtherName table) tables → FitsCatalog tables normal → changes_in table.name normal ≡ []
absent table [] [] apart fits = refl
absent table [] (first ∷ others) apart fits = absurd fits
absent table (other ∷ tables) [] apart fits = refl
absent table (other ∷ tables) (first ∷ others) apart fits =
    elim fits [
      | inl here ↦
          (let e : bytes_eq first.name table.name ≡ false = other_named first.name table.name (λ e. apart.0 (sym e ∙ here.0.0)) in
          simp e (absent table tables others apart.1 here.1))
      | inr behind ↦ absent table tables (first ∷ others) apart.1 behind
    ]

-- what stands at the first table
here : (table : TableDef) (first : TableChanges) (others : List TableChanges) → IsOfTable table first → changes_in table.name (first ∷ others) ≡ first.changes
here table first others of =
    let e : bytes_eq first.name table.name ≡ true = ap (λ (n : List ℕ). bytes_eq n table.name) of.0 ∙ named table.name in
    simp e refl

-- two changesets have the same changes in each of these tables
abbrev Agree : List TableChanges → List TableChanges → List TableDef → Type 0
Agree some others tables =
    AllByRecursion (λ table. changes_in table.name some ≡ changes_in table.name others) tables

behind_both : (table : TableDef) (tables : List TableDef) (first first' : TableChanges) (others others' : List TableChanges) → AllByRecursion (HasOtherName table) tables → IsOfTable table first → IsOfTable table first' → Agree (first ∷ others) (first' ∷ others') tables → Agree others others' tables
behind_both table [] first first' others others' apart of of' agree = tt
behind_both table (other ∷ tables) first first' others others' apart of of' agree =
    let e : bytes_eq first.name other.name ≡ false = other_named first.name other.name (λ e. apart.0 (sym of.0 ∙ e)) in
    let e' : bytes_eq first'.name other.name ≡ false = other_named first'.name other.name (λ e. apart.0 (sym of'.0 ∙ e)) in
    (simp (e, e') at agree.0, behind_both table tables first first' others others' apart.1 of of' agree.1)

same_table : (first first' : TableChanges) → first.name ≡ first'.name → first.marks ≡ first'.marks → first.changes ≡ first'.changes → first ≡ first'
same_table first first' name marks changes =
    let one : first ≡ record { name = first'.name; marks = first.marks; changes = first.changes } = ap (λ (n : List ℕ). let t : TableChanges = record { name = n; marks = first.marks; changes = first.changes } in t) name in
    let two : record { name = first'.name; marks = first.marks; changes = first.changes } ≡ record { name = first'.name; marks = first'.marks; changes = first.changes } = ap (λ (m : List Bool). let t : TableChanges = record { name = first'.name; marks = m; changes = first.changes } in t) marks in
    let three : record { name = first'.name; marks = first'.marks; changes = first.changes } ≡ first' = ap (λ (cs : Changes). let t : TableChanges = record { name = first'.name; marks = first'.marks; changes = cs } in t) changes in
    one ∙ two ∙ three

conjoin : (x y : TableChanges) (xs ys : List TableChanges) → x ≡ y → xs ≡ ys → x ∷ xs ≡ y ∷ ys
conjoin x y xs ys e f = cc

-- what is shown of the tables behind the first
abbrev AreAlike : List TableDef → Type 0
AreAlike tables =
    (some others : List TableChanges) → IsNormalChangeset some → IsNormalChangeset others → FitsCatalog tables some → FitsCatalog tables others → Agree some others tables → some ≡ others

step : (table : TableDef) (tables : List TableDef) {some others : List TableChanges} → AreAlike tables → AllByRecursion (HasOtherName table) tables → IsNormalChangeset some → IsNormalChangeset others → Agree some others (table ∷ tables) → View table tables some → View table tables others → some ≡ others
step table tables rest apart left right agree (takes first others of fits) (takes first' others' of' fits') =
    let changes = sym (here table first others of) ∙ agree.0 ∙ here table first' others' of' in
    conjoin first first' others others' (same_table first first' (of.0 ∙ sym of'.0) (of.1 ∙ sym of'.1) changes) (rest others others' left.2 right.2 fits fits' (behind_both table tables first first' others others' apart of of' agree.1))
step table tables rest apart left right agree (takes first others of fits) (passes normal' fits') =
    absurd (left.0.some (sym (here table first others of) ∙ agree.0 ∙ absent table tables normal' apart fits'))
step table tables rest apart left right agree (passes normal fits) (takes first' others' of' fits') =
    absurd (right.0.some (sym (here table first' others' of') ∙ sym agree.0 ∙ absent table tables normal apart fits))
step table tables rest apart left right agree (passes normal fits) (passes normal' fits') =
    rest normal normal' left right fits fits' agree.1

alike : (tables : List TableDef) → AreApart tables → AreAlike tables
alike [] apart [] [] left right fits fits' agree = refl
alike [] apart [] (first ∷ others) left right fits fits' agree = absurd fits'
alike [] apart (first ∷ others) others' left right fits fits' agree = absurd fits
alike (table ∷ tables) apart some others left right fits fits' agree =
    step table tables (alike tables apart.1) apart.0 left right agree (view table tables some fits) (view table tables others fits')

-- the changes at the same places, table by table
agree_each : (all tables : List TableDef) (some others : List TableChanges) → AllByRecursion (Contains all) tables → IsNormalChangeset some → IsNormalChangeset others → ((table : TableDef) (key : List ℕ) → Contains all table → change_of table.name key some ≡ change_of table.name key others) → Agree some others tables
agree_each all [] some others in' left right same = tt
agree_each all (table ∷ tables) some others in' left right same =
    (one_order (changes_in table.name some) (changes_in table.name others) (table_ordered table.name some left) (table_ordered table.name others right) (λ key. same table key in'.0), agree_each all tables some others in'.1 left right same)

pub one_normal : OneNormal
one_normal tables some others are left right fits fits' same =
    let contained = recursion_from_All (Contains tables) tables (All-contains_itself tables) in
    alike tables (are_apart tables are) some others left right fits fits' (agree_each tables tables some others contained left right same)
