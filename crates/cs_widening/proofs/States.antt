-- Tables, states and changesets where one table gets more columns.
use Rattle.std.proofs.Common.{◌≡◌, ℕ, zero, suc, ◌-◌, ◌<◌, ◌≤◌, Bool, true, false, List, [], ◌∷◌, ◌++◌, length, take, get_or, replicate, Some, None, refl, sym, ap, subst, ◌∙◌, arith, length-append, inl, inr}
use Rattle.std.specs.Option.{option_map}
use Rattle.std.specs.List.{Contains, list_all}
use Rattle.std.specs.Str.{bytes_eq}
use Rattle.std.proofs.lemmas.List.{length-replicate, length-map, take-map, get_or-map, get_or_default}
use Rattle.std.proofs.lemmas.List.Elements.{Contains-append_left}
use Rattle.std.proofs.lemmas.Map.Made.{lookup-map_values}
use Rattle.std.proofs.lemmas.Slice.Eq.{bytes_eq-Decides}
use Rattle.cs_value.specs.Catalog.{HasKeyColumn, HasNewName, HasWidth, IsTable, is_set, marked, max_columns}
use Rattle.cs_value.specs.Key.{Place, HasKey}
use Rattle.cs_value.specs.declared.catalog.TableDef.{TableDef}
use Rattle.cs_value.specs.declared.value.Value.{Value}
use Rattle.cs_value.specs.declared.value.Value.TheVariants.{Null}
use Rattle.cs_change.specs.Spelling.{FitsRow}
use Rattle.cs_order.specs.Order.{same_bytes}
use Rattle.cs_normal.specs.keyed.Changes.{Changes, IsSpelled, change_at, key_bytes}
use Rattle.cs_normal.specs.Normal.{FitsCatalog, IsOfTable, change_of}
use Rattle.cs_value.specs.Facts.{by_test}
use Rattle.cs_normal.specs.State.{IsRowOf, MayStandAt}
use Rattle.cs_normal.specs.declared.normal.TableChanges.{TableChanges}
use Rattle.cs_widening.specs.Laws.{WidenedAreTables, WidenedIsState}
use Rattle.cs_widening.specs.Widening.{up_to, widened_change, widened_changes, widened_in, widened_of_table, widened_place, widened_row, widened_table, widened_tables}
use Rattle.cs_widening.proofs.OnePlace.{row_fits_wide}

-- ---- lists up to a length

pub longer : {A : Type 0} (width : ℕ) (a : A) (list : List A) → length list ≤ length (up_to width a list)
longer width a list = omega (arith, length-append list (replicate (width - length list) a))

pub no_longer : {A : Type 0} (width limit : ℕ) (a : A) (list : List A) → length list ≤ limit → width ≤ limit → length (up_to width a list) ≤ limit
no_longer width limit a list short within =
    omega (arith, short, within, length-append list (replicate (width - length list) a), length-replicate (width - length list) a)

-- ---- one table

name_stays : (name : List ℕ) (width : ℕ) (table : TableDef) → (widened_table name width table).name ≡ table.name
name_stays name width table = by_test (bytes_eq table.name name) _ (λ e. simp e refl) (λ e. simp e refl)

pub wider_where : (name : List ℕ) (width : ℕ) (table : TableDef) → bytes_eq table.name name ≡ true → widened_table name width table ≡ record table { key_marks = up_to width false table.key_marks }
wider_where name width table e = simp e refl

pub stays_where : (name : List ℕ) (width : ℕ) (table : TableDef) → bytes_eq table.name name ≡ false → widened_table name width table ≡ table
stays_where name width table e = simp e refl

marks_may : (width : ℕ) (marks : List Bool) → width ≤ max_columns → (0 < length marks) × (length marks ≤ max_columns) → Contains marks true
    → ((0 < length (up_to width false marks)) × (length (up_to width false marks) ≤ max_columns)) × Contains (up_to width false marks) true
marks_may width marks within (some, short) key = (
  (omega (arith, some, longer width false marks), no_longer width max_columns false marks short within),
  Contains-append_left marks (replicate (width - length marks) false) true key,
)

-- the marks of a table that may have them
marks_of_table : (name : List ℕ) (width : ℕ) (table : TableDef) → width ≤ max_columns → HasWidth table → HasKeyColumn table → HasWidth (widened_table name width table) × HasKeyColumn (widened_table name width table)
marks_of_table name width table within has key =
    by_test (bytes_eq table.name name) _
    (λ e. simp e (marks_may width table.key_marks within has key))
    (λ e. simp e (has, key))

new_name : (name : List ℕ) (width : ℕ) (before : List TableDef) (table : TableDef) → HasNewName before table → HasNewName (widened_tables name width before) (widened_table name width table)
new_name name width before table new place d within =
    let inside : place < length before = omega (arith, within, length-map before (widened_table name width)) in
    let is : get_or (widened_tables name width before) place d ≡ widened_table name width (get_or before place table) = get_or-map (widened_table name width) before place table d inside in
    λ e. new place table inside (sym (name_stays name width (get_or before place table)) ∙ sym (ap (λ (t : TableDef). t.name) is) ∙ e ∙ name_stays name width table)

is_table : (name : List ℕ) (width : ℕ) (before : List TableDef) (table : TableDef) → width ≤ max_columns → IsTable before table → IsTable (widened_tables name width before) (widened_table name width table)
is_table name width before table within is =
    let marks = marks_of_table name width table within is.0 is.1 in
    (marks.0, marks.1, subst (λ (n : List ℕ). (0 < length n) × (length n ≤ 255) × (Contains n 0 → ⊥)) (sym (name_stays name width table)) is.2, new_name name width before table is.3)

pub widened_are_tables : WidenedAreTables
widened_are_tables tables name width are can = (
  omega (arith, are.0, length-map tables (widened_table name width)),
  λ place within d.
      let inside : place < length tables = omega (arith, within, length-map tables (widened_table name width)) in
      let here = get_or tables place can.0 in
      let is : get_or (widened_tables name width tables) place d ≡ widened_table name width here = get_or-map (widened_table name width) tables place can.0 d inside in
      subst (λ (front : List TableDef). IsTable front (get_or (widened_tables name width tables) place d)) (sym (take-map (widened_table name width) place tables))
      (subst (λ (t : TableDef). IsTable (widened_tables name width (take place tables)) t) (sym is)
      (is_table name width (take place tables) here can.4 (are.1 place inside can.0))),
)

-- ---- what is in the tables

contains_wide : (name : List ℕ) (width : ℕ) (tables : List TableDef) (table : TableDef) → Contains tables table → Contains (widened_tables name width tables) (widened_table name width table)
contains_wide name width tables table (place, within, is) = (
  place,
  omega (arith, within, length-map tables (widened_table name width)),
  get_or-map (widened_table name width) tables place table (widened_table name width table) within ∙ ap (widened_table name width) is,
)

-- a table of those is what became of one
pub was_there : (name : List ℕ) (width : ℕ) (tables : List TableDef) (table : TableDef) → Contains (widened_tables name width tables) table → (old : TableDef) × Contains tables old × (widened_table name width old ≡ table)
was_there name width tables table (place, within, is) =
    let inside : place < length tables = omega (arith, within, length-map tables (widened_table name width)) in
    let old = get_or tables place table in
    (old, (place, inside, get_or_default tables place old table inside), sym (get_or-map (widened_table name width) tables place table table inside) ∙ is)

-- ---- rows

pub spelled_more : (row : List Value) (n : ℕ) → IsSpelled row → IsSpelled (row ++ replicate n Null)
spelled_more [] zero s = tt
spelled_more [] (suc n) s = (tt, spelled_more [] n tt)
spelled_more (v ∷ row) n s = (s.0, spelled_more row n s.1)

row_of_wide : (width : ℕ) (marks : List Bool) (key : List ℕ) (row : List Value) → FitsRow (length marks) row → list_all is_set (marked marks row) ≡ true → key ≡ key_bytes (marked marks row)
    → FitsRow (length (up_to width false marks)) (widened_row width row) × (list_all is_set (marked (up_to width false marks) (widened_row width row)) ≡ true)
    × (key ≡ key_bytes (marked (up_to width false marks) (widened_row width row)))
row_of_wide width marks key row fits set keyed =
    let has : HasKey (up_to width false marks) (marked marks row) (widened_row width row) = row_fits_wide width marks (marked marks row) row (record { wide = fits.0; keyed = refl }) in
    ((has.wide, spelled_more row (width - length row) fits.1), ap (list_all is_set) has.keyed ∙ set, keyed ∙ ap key_bytes (sym has.keyed))

is_row_wide : (name : List ℕ) (width : ℕ) (table : TableDef) (key : List ℕ) (row : List Value) → bytes_eq table.name name ≡ true → IsRowOf table key row → IsRowOf (widened_table name width table) key (widened_row width row)
is_row_wide name width table key row e is =
    let parts = row_of_wide width table.key_marks key row is.fits is.set is.keyed in
    subst (λ (t : TableDef). IsRowOf t key (widened_row width row)) (sym (wider_where name width table e)) (record { fits = parts.0; set = parts.1; keyed = parts.2 })

-- ---- states

may_stand_wide : (tables : List TableDef) (name : List ℕ) (width : ℕ) (at key : List ℕ) (place : Place) → bytes_eq at name ≡ true → MayStandAt tables at key place → MayStandAt (widened_tables name width tables) at key (widened_place width place)
may_stand_wide tables name width at key None e may = tt
may_stand_wide tables name width at key (Some row) e (table, one, is, row_is) = (
  widened_table name width table,
  contains_wide name width tables table one,
  name_stays name width table ∙ is,
  is_row_wide name width table key row (subst (λ (n : List ℕ). bytes_eq n name ≡ true) (sym is) e) row_is,
)

may_stand_else : (tables : List TableDef) (name : List ℕ) (width : ℕ) (at key : List ℕ) (place : Place) → bytes_eq at name ≡ false → MayStandAt tables at key place → MayStandAt (widened_tables name width tables) at key place
may_stand_else tables name width at key None e may = tt
may_stand_else tables name width at key (Some row) e (table, one, is, row_is) =
    let same : widened_table name width table ≡ table = stays_where name width table (subst (λ (n : List ℕ). bytes_eq n name ≡ false) (sym is) e) in (
      table,
      subst (λ (t : TableDef). Contains (widened_tables name width tables) t) same (contains_wide name width tables table one),
      is,
      row_is,
    )

pub widened_is_state : WidenedIsState
widened_is_state tables name width state is at key =
    by_test (bytes_eq at name) _
    (λ e. simp e (may_stand_wide tables name width at key (state at key) e (is at key)))
    (λ e. simp e (may_stand_else tables name width at key (state at key) e (is at key)))

-- ---- changesets

of_table_wide : (name : List ℕ) (width : ℕ) (table : TableDef) (changes : TableChanges) → IsOfTable table changes → IsOfTable (widened_table name width table) (widened_of_table name width changes)
of_table_wide name width table changes (is, marks) =
    by_test (bytes_eq table.name name) _
    (λ e. let e' : bytes_eq changes.name name ≡ true = subst (λ (n : List ℕ). bytes_eq n name ≡ true) (sym is) e in
    simp (e, e') (is, ap (up_to width false) marks))
    (λ e. let e' : bytes_eq changes.name name ≡ false = subst (λ (n : List ℕ). bytes_eq n name ≡ false) (sym is) e in
    simp (e, e') (is, marks))

pub fits_wide : (name : List ℕ) (width : ℕ) (tables : List TableDef) (changes : List TableChanges) → FitsCatalog tables changes → FitsCatalog (widened_tables name width tables) (widened_changes name width changes)
fits_wide name width tables [] fits = tt
fits_wide name width [] (first ∷ others) fits = absurd fits
fits_wide name width (table ∷ tables) (first ∷ others) fits =
    elim fits [
      | inl here ↦ inl (of_table_wide name width table first here.0, fits_wide name width tables others here.1)
      | inr behind ↦ inr (fits_wide name width tables (first ∷ others) behind)
    ]

change_at_wide : (width : ℕ) (key : List ℕ) (changes : Changes) → change_at key (widened_in width changes) ≡ option_map (widened_change width) (change_at key changes)
change_at_wide width key changes = lookup-map_values (widened_change width) (same_bytes key) changes

pub name_of_changes : (name : List ℕ) (width : ℕ) (changes : TableChanges) → (widened_of_table name width changes).name ≡ changes.name
name_of_changes name width changes = by_test (bytes_eq changes.name name) _ (λ e. simp e refl) (λ e. simp e refl)

pub change_where : (name : List ℕ) (width : ℕ) (at key : List ℕ) (changes : List TableChanges) → bytes_eq at name ≡ true → change_of at key (widened_changes name width changes) ≡ option_map (widened_change width) (change_of at key changes)
change_where name width at key [] e = refl
change_where name width at key (first ∷ others) e =
    by_test (bytes_eq first.name at) _
    (λ t. let is : first.name ≡ at = (bytes_eq-Decides first.name at).0 t in
    let e' : bytes_eq first.name name ≡ true = subst (λ (n : List ℕ). bytes_eq n name ≡ true) (sym is) e in
    simp (e', t) (change_at_wide width key first.changes))
    (λ f. let rest = change_where name width at key others e in
    let f' : bytes_eq (widened_of_table name width first).name at ≡ false = subst (λ (n : List ℕ). bytes_eq n at ≡ false) (sym (name_of_changes name width first)) f in
    simp (f', f) rest)

pub change_else : (name : List ℕ) (width : ℕ) (at key : List ℕ) (changes : List TableChanges) → bytes_eq at name ≡ false → change_of at key (widened_changes name width changes) ≡ change_of at key changes
change_else name width at key [] e = refl
change_else name width at key (first ∷ others) e =
    by_test (bytes_eq first.name at) _
    (λ t. let is : first.name ≡ at = (bytes_eq-Decides first.name at).0 t in
    let e' : bytes_eq first.name name ≡ false = subst (λ (n : List ℕ). bytes_eq n name ≡ false) (sym is) e in
    simp (e', t) refl)
    (λ f. let rest = change_else name width at key others e in
    let f' : bytes_eq (widened_of_table name width first).name at ≡ false = subst (λ (n : List ℕ). bytes_eq n at ≡ false) (sym (name_of_changes name width first)) f in
    simp (f', f) rest)
