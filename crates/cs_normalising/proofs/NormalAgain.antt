-- A changeset in normal form is its own normal form.
use Rattle.std.proofs.Common.{◌≡◌, ℕ, Bool, true, false, List, [], ◌∷◌, ◌++◌, map, refl, sym, subst, ap, ◌∙◌, inl, inr, append-nil}
use Rattle.std.specs.List.{AllByRecursion, Contains, IsDistinct, list_all}
use Rattle.std.specs.List.Sorted.{IsStrictlySortedBy}
use Rattle.std.specs.Map.{keys_of}
use Rattle.std.specs.Str.{bytes_eq}
use Rattle.std.proofs.lemmas.List.Elements.{All-from_recursion, recursion_from_All, All-nil, All-contains_itself}
use Rattle.std.proofs.lemmas.Map.Keys.{IsDistinct-from_sorted}
use Rattle.cs_value.specs.Facts.{by_test}
use Rattle.cs_value.specs.Catalog.{is_set}
use Rattle.cs_value.specs.declared.catalog.TableDef.{TableDef}
use Rattle.cs_change.specs.Facts.{marks_stay}
use Rattle.cs_change.specs.declared.change.Change.{Change}
use Rattle.cs_order.specs.Order.{by_bytes, same_bytes}
use Rattle.cs_normal.specs.keyed.Changes.{Changes, change_at, key_bytes, IsEntry, AreNormal}
use Rattle.cs_normal.specs.keyed.NormalForm.{change_bytes, has_key, AreKeyed, IsNormalOf, normal_form_any, keyed}
use Rattle.cs_normal.specs.Normal.{AreApart, IsOfTable, FitsCatalog, IsNormalChangeset, changes_in, group_of, groups_of}
use Rattle.cs_normal.specs.declared.normal.TableChanges.{TableChanges}
use Rattle.cs_normal.specs.NormalFacts.{HasOtherName, are_apart, named, other_named, change_stays, conjoin, only_changes}
use Rattle.cs_normalising.specs.Laws.{NormalAgain, NormalIsItsForm}
use Rattle.cs_normalising.specs.NormalFormOf.{changes_of, HasTable}
use Rattle.cs_normalising.proofs.Membership.{by_membership}

-- ---- one change

pub normal_is_its_form : NormalIsItsForm
normal_is_its_form marks bytes change is = (change_stays marks is.key change is.normal).0

-- ---- the changes of one table

bytes_stay : (marks : List Bool) (entry : List ℕ × Change) → IsEntry marks entry → change_bytes marks entry.1 ≡ entry.0
bytes_stay marks entry is =
    ap key_bytes (change_stays marks is.key entry.1 is.normal).1 ∙ sym is.bytes

keys_stay : (marks : List Bool) (changes : Changes) → AllByRecursion (IsEntry marks) changes → map (change_bytes marks) (only_changes changes) ≡ keys_of changes
keys_stay marks [] h = refl
keys_stay marks (entry ∷ changes) h = conjoin (bytes_stay marks entry h.0) (keys_stay marks changes h.1)

have_key : (marks : List Bool) (changes : Changes) → AllByRecursion (IsEntry marks) changes → list_all (has_key marks) (only_changes changes) ≡ true
have_key marks [] h = refl
have_key marks (entry ∷ changes) h =
    let here : has_key marks entry.1 ≡ true = ap (list_all is_set) (change_stays marks h.0.key entry.1 h.0.normal).1 ∙ h.0.set in
    simp here (have_key marks changes h.1)

stands_alike : (marks : List Bool) (changes : Changes) (key : List ℕ) → AllByRecursion (IsEntry marks) changes → change_at key changes ≡ normal_form_any marks (change_at key (keyed marks (only_changes changes)))
stands_alike marks [] key h = refl
stands_alike marks (entry ∷ changes) key h =
    let bytes = bytes_stay marks entry h.0 in
    let form = (change_stays marks h.0.key entry.1 h.0.normal).0 in
    by_test (same_bytes key entry.0) _ (λ e. simp (bytes, e, form) refl) (λ e. simp (bytes, e) (stands_alike marks changes key h.1))

changes_keyed : (marks : List Bool) (changes : Changes) → AreNormal marks changes → AreKeyed marks (only_changes changes)
changes_keyed marks changes n =
    let h = recursion_from_All (IsEntry marks) changes n.1 in
    (have_key marks changes h, subst (IsDistinct same_bytes) (sym (keys_stay marks changes h)) (IsDistinct-from_sorted by_bytes (keys_of changes) n.0))

changes_stay : (marks : List Bool) (changes : Changes) → AreNormal marks changes → IsNormalOf marks (only_changes changes) changes
changes_stay marks changes n =
    by_membership marks (only_changes changes) changes (changes_keyed marks changes n) (n.0, λ key. stands_alike marks changes key (recursion_from_All (IsEntry marks) changes n.1))

-- ---- all tables

no_changes : (marks : List Bool) → AreNormal marks []
unfolding IsStrictlySortedBy
no_changes marks = (tt, All-nil (IsEntry marks))

-- what stands in the table's groups is what stands in the table
record Holds (normal : List TableChanges) (table : TableDef) : Type 0 where
  same : changes_of table.name (groups_of normal) ≡ only_changes (changes_in table.name normal)
  form : AreNormal table.key_marks (changes_in table.name normal)

absent : (table : TableDef) (tables : List TableDef) (normal : List TableChanges) → AllByRecursion (HasOtherName table) tables → FitsCatalog tables normal → (changes_of table.name (groups_of normal) ≡ []) × (changes_in table.name normal ≡ [])
absent table [] [] apart fits = (refl, refl)
absent table [] (first ∷ others) apart fits = absurd fits
absent table (other ∷ tables) [] apart fits = (refl, refl)
absent table (other ∷ tables) (first ∷ others) apart fits =
    elim fits [
      | inl here ↦
          (let e : bytes_eq first.name table.name ≡ false = other_named first.name table.name (λ e. apart.0 (sym e ∙ here.0.0)) in
          simp e (absent table tables others apart.1 here.1))
      | inr behind ↦ absent table tables (first ∷ others) apart.1 behind
    ]

in_front : (table : TableDef) (tables : List TableDef) (first : TableChanges) (others : List TableChanges) → AllByRecursion (HasOtherName table) tables → first.name ≡ table.name → AllByRecursion (Holds others) tables → AllByRecursion (Holds (first ∷ others)) tables
in_front table [] first others apart same h = tt
in_front table (other ∷ tables) first others apart same h =
    let e : bytes_eq first.name other.name ≡ false = other_named first.name other.name (λ is. apart.0 (sym same ∙ is)) in
    (record { same = simp e h.0.same; form = simp e h.0.form }, in_front table tables first others apart.1 same h.1)

nothing_held : (tables : List TableDef) → AllByRecursion (Holds []) tables
nothing_held [] = tt
nothing_held (table ∷ tables) = (record { same = refl; form = no_changes table.key_marks }, nothing_held tables)

all_held : (tables : List TableDef) (normal : List TableChanges) → AreApart tables → IsNormalChangeset normal → FitsCatalog tables normal → AllByRecursion (Holds normal) tables
all_held [] normal apart n fits = tt
all_held (table ∷ tables) [] apart n fits = nothing_held (table ∷ tables)
all_held (table ∷ tables) (first ∷ others) apart n fits =
    elim fits [
      | inl here ↦
          (let e : bytes_eq first.name table.name ≡ true = ap (λ (name : List ℕ). bytes_eq name table.name) here.0.0 ∙ named table.name in
          let none = absent table tables others apart.0 here.1 in
          let front : changes_of table.name (groups_of (first ∷ others)) ≡ only_changes first.changes ++ changes_of table.name (groups_of others) = simp e refl in
          let at : changes_in table.name (first ∷ others) ≡ first.changes = simp e refl in
          let form : AreNormal table.key_marks first.changes = subst (λ (marks : List Bool). AreNormal marks first.changes) here.0.1 n.0.changes in
          (record { same = front ∙ ap (λ (cs : List Change). only_changes first.changes ++ cs) none.0 ∙ append-nil (only_changes first.changes) ∙ ap only_changes (sym at); form = subst (AreNormal table.key_marks) (sym at) form }, in_front table tables first others apart.0 here.0.0 (all_held tables others apart.1 n.2 here.1)))
      | inr behind ↦
          (let none = absent table tables (first ∷ others) apart.0 behind in
          (record { same = none.0 ∙ ap only_changes (sym none.1); form = subst (AreNormal table.key_marks) (sym none.1) (no_changes table.key_marks) }, all_held tables (first ∷ others) apart.1 n behind))
    ]

keys_each : (normal : List TableChanges) (tables : List TableDef) → AllByRecursion (Holds normal) tables → AllByRecursion (λ table. AreKeyed table.key_marks (changes_of table.name (groups_of normal))) tables
keys_each normal [] h = tt
keys_each normal (table ∷ tables) h =
    (subst (AreKeyed table.key_marks) (sym h.0.same) (changes_keyed table.key_marks (changes_in table.name normal) h.0.form), keys_each normal tables h.1)

forms_each : (normal : List TableChanges) (tables : List TableDef) → AllByRecursion (Holds normal) tables → AllByRecursion (λ table. IsNormalOf table.key_marks (changes_of table.name (groups_of normal)) (changes_in table.name normal)) tables
forms_each normal [] h = tt
forms_each normal (table ∷ tables) h =
    (subst (λ (changes : List Change). IsNormalOf table.key_marks changes (changes_in table.name normal)) (sym h.0.same) (changes_stay table.key_marks (changes_in table.name normal) h.0.form), forms_each normal tables h.1)

abbrev IsOfOne : List TableDef → TableChanges → Type 0
IsOfOne tables first = (table : TableDef) × Contains tables table × IsOfTable table first

group_has : (tables : List TableDef) (first : TableChanges) → IsOfOne tables first → HasTable tables (group_of first)
group_has tables first (table, in', of) = (table, in', (of.0, marks_stay first.marks ∙ of.1))

tables_each : (all tables : List TableDef) (normal : List TableChanges) → AllByRecursion (Contains all) tables → FitsCatalog tables normal → AllByRecursion (HasTable all) (groups_of normal)
tables_each all tables [] in' fits = tt
tables_each all [] (first ∷ others) in' fits = absurd fits
tables_each all (table ∷ tables) (first ∷ others) in' fits =
    elim fits [
      | inl here ↦ (group_has all first (table, in'.0, here.0), tables_each all tables others in'.1 here.1)
      | inr behind ↦ tables_each all tables (first ∷ others) in'.1 behind
    ]

pub normal_again : NormalAgain
normal_again tables normal are n fits =
    let held = all_held tables normal (are_apart tables are) n fits in
    let groups = groups_of normal in
    let contained = recursion_from_All (Contains tables) tables (All-contains_itself tables) in
    record {
      fit = (All-from_recursion (HasTable tables) groups (tables_each tables tables normal contained fits), All-from_recursion (λ table. AreKeyed table.key_marks (changes_of table.name groups)) tables (keys_each normal tables held));
      normal = n;
      of_catalog = fits;
      each = All-from_recursion (λ table. IsNormalOf table.key_marks (changes_of table.name groups) (changes_in table.name normal)) tables (forms_each normal tables held);
    }
