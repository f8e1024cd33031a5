-- The headers of changesets are headers of each changeset of the catalog that they tell of.
use Rattle.std.proofs.Common.{◌≡◌, ◌≢◌, ℕ, Bool, true, false, List, [], ◌∷◌, ◌++◌, map, get_or, refl, sym, ap, ◌∙◌, inl, inr, ◌⊎◌}
use Rattle.std.specs.List.{AllByRecursion, Contains, filter, flat_map}
use Rattle.std.specs.Str.{bytes_eq}
use Rattle.std.proofs.lemmas.Slice.Eq.{bytes_eq-Decides}
use Rattle.std.proofs.lemmas.List.{get_or_default}
use Rattle.std.proofs.lemmas.List.Elements.{recursion_from_All, All-from_recursion}
use Rattle.cs_value.specs.declared.catalog.TableDef.{TableDef}
use Rattle.cs_change.specs.Facts.{marks_stay}
use Rattle.cs_change.specs.Spelling.{flag_byte, marks_of, FitsChangeset, FitsHeader}
use Rattle.cs_change.specs.declared.group.Group.{Group}
use Rattle.cs_normal.specs.Headers.{header, headers, has_other_name, tables_of_headers, HasTwoShapes}
use Rattle.cs_normal.specs.Normal.{FitsCatalog, IsOfTable}
use Rattle.cs_normal.specs.declared.normal.TableChanges.{TableChanges}
use Rattle.cs_column_bytes.specs.KeyPlaces.{Head, heads_of}
use Rattle.cs_column_bytes.specs.Laws.{HeadsOfCatalog, IsHeadOf}

-- what a filter keeps is as all were
kept : (P : TableDef → Type 0) (keep : TableDef → Bool) (tables : List TableDef) → AllByRecursion P tables → AllByRecursion P (filter keep tables)
kept P keep [] each = tt
kept P keep (table ∷ tables) each =
    let split : (test : Bool) → keep table ≡ test → AllByRecursion P (filter keep (table ∷ tables)) =
    elim [
      | true ↦ λ e. rw e (each.0, kept P keep tables each.1)
      | false ↦ λ e. rw e (kept P keep tables each.1)
    ] in
    split (keep table) refl

-- the tables that headers tell of are some of them
told : (P : TableDef → Type 0) (heads : List TableDef) → AllByRecursion P heads → AllByRecursion P (tables_of_headers heads)
unfolding tables_of_headers
told P [] each = tt
told P (first ∷ others) each =
    (each.0, kept P (has_other_name first) (tables_of_headers others) (told P others each.1))

-- a table of the catalog of which all tables are so
record IsOne (P : TableDef → Type 0) (table : TableChanges) : Type 0 where
  def : TableDef
  is : P def
  of : IsOfTable def table

-- each table of a changeset of a catalog is one of the catalog's
each_of : (P : TableDef → Type 0) (tables : List TableDef) (changeset : List TableChanges) → AllByRecursion P tables → FitsCatalog tables changeset → AllByRecursion (IsOne P) changeset
each_of P tables [] each fits = tt
each_of P [] (first ∷ others) each fits = absurd fits
each_of P (table ∷ tables) (first ∷ others) each (inl fits) =
    (record { def = table; is = each.0; of = fits.0 }, each_of P tables others each.1 fits.1)
each_of P (table ∷ tables) (first ∷ others) each (inr fits) = each_of P tables (first ∷ others) each.1 fits

-- the table that a header tells of
abbrev table_of : Head → TableDef
table_of head = record { name = head.0; key_marks = marks_of head.1 }

-- a header that can be read, of a table that is so
abbrev CanHead : (TableDef → Type 0) → Head → Type 0
CanHead P head = P (table_of head) × FitsHeader head.1 head.0

both : {A : Type 0} (P : A → Type 0) (some others : List A) → AllByRecursion P some → AllByRecursion P others → AllByRecursion P (some ++ others)
both P [] others each rest = rest
both P (one ∷ some) others each rest = (each.0, both P some others each.1 rest)

front : {A : Type 0} (P : A → Type 0) (some others : List A) → AllByRecursion P (some ++ others) → AllByRecursion P some × AllByRecursion P others
front P [] others each = (tt, each)
front P (one ∷ some) others each = let rest = front P some others each.1 in ((each.0, rest.0), rest.1)

heads_in : (P : TableDef → Type 0) (groups : List Group) → FitsChangeset groups → AllByRecursion P (map header groups) → AllByRecursion (CanHead P) (heads_of groups)
heads_in P [] fits each = tt
heads_in P (group ∷ groups) fits each = ((each.0, fits.0.0), heads_in P groups fits.1 each.1)

heads_all : (P : TableDef → Type 0) (changesets : List (List Group)) → AllByRecursion FitsChangeset changesets → AllByRecursion P (headers changesets) → AllByRecursion (CanHead P) (flat_map heads_of changesets)
heads_all P [] fits each = tt
heads_all P (groups ∷ changesets) fits each =
    let parts = front P (map header groups) (headers changesets) each in
    both (CanHead P) (heads_of groups) (flat_map heads_of changesets) (heads_in P groups fits.0 parts.0) (heads_all P changesets fits.1 parts.1)

-- key columns are the same or aren't
same_or_not : (some other : List Bool) → (some ≡ other) ⊎ (some ≢ other)
same_or_not some other =
    let bytes : List Bool → List ℕ = λ marks. map flag_byte marks in
    let split : (test : Bool) → bytes_eq (bytes some) (bytes other) ≡ test → (some ≡ other) ⊎ (some ≢ other) =
    elim [
      | true ↦ λ e.
          inl (sym (marks_stay some) ∙ ap marks_of ((bytes_eq-Decides (bytes some) (bytes other)).0 e) ∙ marks_stay other)
      | false ↦ λ e. inr (λ is. let yes = (bytes_eq-Decides (bytes some) (bytes other)).1 (ap bytes is) in cc)
    ] in
    split (bytes_eq (bytes some) (bytes other)) refl

-- headers that tell of no two shapes of a table have its key columns
head_of_one : (tables : List TableDef) → (HasTwoShapes tables → ⊥) → (table : TableChanges) → IsOne (Contains tables) table → (head : Head) → CanHead (Contains tables) head → IsHeadOf head table
head_of_one tables one table of head can same =
    let name : head.0 ≡ of.def.name = same ∙ of.of.0 in
    let marks : marks_of head.1 ≡ of.def.key_marks =
    elim (same_or_not (marks_of head.1) of.def.key_marks) [
      | inl is ↦ is
      | inr is ↦ absurd (one (table_of head, of.def, can.0, of.is, (name, is)))
    ] in
    (marks ∙ sym of.of.1, can.1)

pub heads_of_catalog : HeadsOfCatalog
heads_of_catalog changesets tables fit have of =
    let all : List TableDef = headers changesets in
    let those : AllByRecursion (Contains all) all = recursion_from_All (Contains all) all (λ k d less. (k, less, get_or_default all k (get_or all k d) d less)) in
    let each = each_of (Contains all) (tables_of_headers all) tables (told (Contains all) all those) of in
    let heads = All-from_recursion (CanHead (Contains all)) (flat_map heads_of changesets) (heads_all (Contains all) changesets fit those) in
    λ k d less. let one : IsOne (Contains all) (get_or tables k d) = All-from_recursion (IsOne (Contains all)) tables each k d less in
    λ j e within. head_of_one all have.0 (get_or tables k d) one (get_or (flat_map heads_of changesets) j e) (heads j e within)
