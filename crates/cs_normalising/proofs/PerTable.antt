-- What the tables' normal forms are together.
use Rattle.std.proofs.Common.{◌≡◌, false, List, [], ◌∷◌, ◌++◌, refl, sym, subst, arith, inl, length, append_assoc, append-nil}
use Rattle.std.specs.List.{All, AllByRecursion}
use Rattle.std.specs.Str.{bytes_eq}
use Rattle.std.proofs.lemmas.List.Elements.{All-from_recursion}
use Rattle.cs_value.specs.declared.catalog.TableDef.{TableDef}
use Rattle.cs_change.specs.Spelling.{FitsChange}
use Rattle.cs_change.specs.declared.group.Group.{Group}
use Rattle.cs_normal.specs.keyed.Changes.{Changes}
use Rattle.cs_normal.specs.Normal.{AreApart, FitsCatalog, changes_in, table_changes}
use Rattle.cs_normal.specs.keyed.NormalForm.{AreKeyed, IsNormalOf}
use Rattle.cs_normalising.specs.NormalFormOf.{changes_of, HaveKeys}
use Rattle.cs_normalising.specs.Steps.TableByTable.{AreTablesOf, no_table, next, IsTableOf}
use Rattle.cs_normal.specs.declared.normal.TableChanges.{TableChanges}
use Rattle.cs_normal.specs.NormalFacts.{fits_more, HasOtherName, named, other_named}

-- with what is made of the tables that are left, all are made
abbrev Completes : List Group → List TableDef → List TableDef → List TableChanges → Type 0
Completes groups left tables normal =
    (more : List TableChanges) → AreTablesOf groups left more → AreTablesOf groups tables (normal ++ more)

pub built_none : (groups : List Group) (tables : List TableDef) (normal : List TableChanges) → normal ≡ [] → Completes groups tables tables normal
built_none groups tables normal is more made = rw is made

pub built_more : (groups : List Group) (table : TableDef) (changes : Changes) (left tables : List TableDef) (normal now : List TableChanges) → now ≡ normal ++ table_changes table changes → IsTableOf groups table changes → Completes groups (table ∷ left) tables normal → Completes groups left tables now
built_more groups table changes left tables normal now is h so_far more made =
    rw (is, append_assoc) (so_far (table_changes table changes ++ more) (next table changes h made))

pub built_all : (groups : List Group) (left tables : List TableDef) (normal : List TableChanges) → length left ≡ 0 → Completes groups left tables normal → AreTablesOf groups tables normal
built_all groups [] tables normal none so_far = rw append-nil at (so_far [] no_table)
built_all groups (table ∷ left) tables normal none so_far = absurd (omega (arith, none))

have_keys_each : {groups : List Group} {tables : List TableDef} {normal : List TableChanges} → AreTablesOf groups tables normal → AllByRecursion (λ table. AreKeyed table.key_marks (changes_of table.name groups)) tables
have_keys_each no_table = tt
have_keys_each (next table changes h rest) = (h.keyed, have_keys_each rest)

pub have_keys : {groups : List Group} {tables : List TableDef} {normal : List TableChanges} → AreTablesOf groups tables normal → HaveKeys tables groups
have_keys {groups} {tables} made =
    All-from_recursion (λ table. AreKeyed table.key_marks (changes_of table.name groups)) tables (have_keys_each made)

pub fits_catalog : {groups : List Group} {tables : List TableDef} {normal : List TableChanges} → AreTablesOf groups tables normal → FitsCatalog tables normal
fits_catalog no_table = tt
fits_catalog (next table [] {tables} {normal} h rest) = fits_more table tables normal (fits_catalog rest)
fits_catalog (next table (change ∷ changes) h rest) = inl ((refl, refl), fits_catalog rest)

-- the changes of this table are as the reader takes them
abbrev pub AreAsRead : List Group → TableDef → Type 0
AreAsRead groups table = AllByRecursion (FitsChange table.key_marks) (changes_of table.name groups)

-- a name that no table has has no changes
absent : {groups : List Group} {tables : List TableDef} {normal : List TableChanges} (table : TableDef) → AllByRecursion (HasOtherName table) tables → AreTablesOf groups tables normal → changes_in table.name normal ≡ []
absent table apart no_table = refl
absent table apart (next other [] h rest) = absent table apart.1 rest
absent table apart (next other (change ∷ changes) h rest) =
    let e : bytes_eq other.name table.name ≡ false = other_named other.name table.name (λ e. apart.0 (sym e)) in
    simp e (absent table apart.1 rest)

-- these are the table's changes in normal form
abbrev pub HasNormalForm : List Group → List TableChanges → TableDef → Type 0
HasNormalForm groups normal table = IsNormalOf table.key_marks (changes_of table.name groups) (changes_in table.name normal)

-- a table of another name in front changes nothing
behind : (groups : List Group) (table : TableDef) (changes : Changes) (normal : List TableChanges) (tables : List TableDef) → AllByRecursion (HasOtherName table) tables → AllByRecursion (HasNormalForm groups normal) tables → AllByRecursion (HasNormalForm groups (table_changes table changes ++ normal)) tables
behind groups table [] normal tables apart forms = forms
behind groups table (change ∷ changes) normal [] apart forms = tt
behind groups table (change ∷ changes) normal (other ∷ tables) apart forms =
    let e : bytes_eq table.name other.name ≡ false = other_named table.name other.name apart.0 in
    (simp e forms.0, behind groups table (change ∷ changes) normal tables apart.1 forms.1)

normal_forms : {groups : List Group} {tables : List TableDef} {normal : List TableChanges} → AreApart tables → AreTablesOf groups tables normal → AllByRecursion (HasNormalForm groups normal) tables
normal_forms apart no_table = tt
normal_forms {groups} apart (next table [] {tables} {normal} h rest) =
    (subst (IsNormalOf table.key_marks (changes_of table.name groups)) (sym (absent table apart.0 rest)) h.normal, normal_forms apart.1 rest)
normal_forms {groups} apart (next table (change ∷ changes) {tables} {normal} h rest) =
    let e = named table.name in
    (simp e h.normal, behind groups table (change ∷ changes) normal tables apart.0 (normal_forms apart.1 rest))

pub forms_all : {groups : List Group} {tables : List TableDef} {normal : List TableChanges} → AreApart tables → AreTablesOf groups tables normal → All (HasNormalForm groups normal) tables
forms_all {groups} {tables} {normal} apart made =
    All-from_recursion (HasNormalForm groups normal) tables (normal_forms apart made)
