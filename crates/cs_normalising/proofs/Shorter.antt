-- The normal form of a changeset takes no more bytes than the changeset.
use Rattle.std.proofs.Common.{◌≡◌, ℕ, ◌+◌, ◌<◌, ◌≤◌, false, cond, List, [], ◌∷◌, length, map, refl, sym, ap, ◌∙◌, arith, length-append}
use Rattle.std.specs.List.{AllByRecursion, flat_map}
use Rattle.std.specs.Str.{bytes_eq}
use Rattle.std.proofs.lemmas.Grind.{flat_map-append}
use Rattle.std.proofs.lemmas.List.{length-map}
use Rattle.std.proofs.lemmas.Slice.Eq.{bytes_eq-Decides}
use Rattle.cs_value.specs.Facts.{by_test}
use Rattle.cs_varint.specs.Varint.{spelling}
use Rattle.cs_value.specs.declared.catalog.TableDef.{TableDef}
use Rattle.cs_change.specs.Spelling.{flag_byte, is_nonzero, marks_of, change_spelling, changes_spelling, header_spelling, group_spelling, changeset_spelling}
use Rattle.cs_change.specs.declared.change.Change.{Change}
use Rattle.cs_change.specs.declared.change.Change.TheVariants.{Insert, Delete, Update}
use Rattle.cs_change.specs.declared.group.Group.{Group}
use Rattle.cs_normal.specs.keyed.Changes.{Changes}
use Rattle.cs_normal.specs.Normal.{AreApart, table_spelling, normal_spelling}
use Rattle.cs_normalising.specs.NormalFormOf.{changes_of}
use Rattle.cs_normalising.specs.Steps.TableByTable.{IsTableOf, AreTablesOf, no_table, next}
use Rattle.cs_normal.specs.declared.normal.TableChanges.{TableChanges}
use Rattle.cs_normal.specs.NormalFacts.{HasOtherName, other_named}

-- the groups of the table's name have its columns
abbrev pub HaveShape : List Group → TableDef → Type 0
HaveShape groups table = AllByRecursion (λ (group : Group). group.name ≡ table.name → marks_of group.marks ≡ table.key_marks) groups

-- a group's bytes, if it has this name
abbrev size_if : List ℕ → Group → ℕ
size_if name group = cond (bytes_eq group.name name) (length (group_spelling group)) 0

-- the bytes of the groups of this name
abbrev size_of : List ℕ → List Group → ℕ
size_of name [] = 0
size_of name (group ∷ groups) = size_if name group + size_of name groups

changes_size : (name : List ℕ) (groups : List Group) → length (changes_spelling (changes_of name groups)) ≤ size_of name groups
changes_size name [] = omega arith
changes_size name (group ∷ groups) =
    let rest = changes_size name groups in
    by_test (bytes_eq group.name name) _ (λ e. simp (e, flat_map-append, length-append) (omega (arith, rest))) (λ e. simp e (omega (arith, rest)))

-- a header of so many columns and so long a name
header_size : (some other name : List ℕ) → length some ≡ length other → length (header_spelling some name) ≡ length (header_spelling other name)
header_size some other name e =
    simp length-append (omega (arith, e, ap (λ (n : ℕ). length (spelling n)) e))

-- where there are changes, the bytes of the groups hold a header too
with_header : (table : TableDef) (groups : List Group) → HaveShape groups table → 0 < length (changes_spelling (changes_of table.name groups)) → length (header_spelling (map flag_byte table.key_marks) table.name) + length (changes_spelling (changes_of table.name groups)) ≤ size_of table.name groups
with_header table [] shape some = absurd (omega (arith, some))
with_header table (group ∷ groups) shape some =
    by_test (bytes_eq group.name table.name) _ (λ e.
    let same : group.name ≡ table.name = (bytes_eq-Decides group.name table.name).0 e in
    let wide : length group.marks ≡ length table.key_marks = sym (length-map group.marks is_nonzero) ∙ ap length (shape.0 same) in
    let header : length (header_spelling group.marks table.name) ≡ length (header_spelling (map flag_byte table.key_marks) table.name) = header_size group.marks (map flag_byte table.key_marks) table.name (wide ∙ sym (length-map table.key_marks flag_byte)) in
    let header' : length (header_spelling group.marks group.name) ≡ length (header_spelling (map flag_byte table.key_marks) table.name) = ap (λ (n : List ℕ). length (header_spelling group.marks n)) same ∙ header in
    let rest = changes_size table.name groups in
    let whole : length (group_spelling group) ≡ length (header_spelling group.marks group.name) + length (changes_spelling group.changes) = length-append (header_spelling group.marks group.name) (changes_spelling group.changes) in
    simp (e, flat_map-append, length-append {A = ℕ} (changes_spelling group.changes)) (omega (arith, header', rest, whole))) (λ e.
    let some' : 0 < length (changes_spelling (changes_of table.name groups)) = simp e at some in
    let rest = with_header table groups shape.1 some' in
    simp e (omega (arith, rest)))

pub change_takes_a_byte : (change : Change) → 0 < length (change_spelling change)
change_takes_a_byte (Insert flag new) = omega arith
change_takes_a_byte (Delete flag old) = omega arith
change_takes_a_byte (Update flag old new) = omega arith

table_size : (table : TableDef) (change : List ℕ × Change) (changes : Changes) (groups : List Group) → HaveShape groups table → IsTableOf groups table (change ∷ changes) → length (table_spelling (record { name = table.name; marks = table.key_marks; changes = change ∷ changes })) ≤ size_of table.name groups
table_size table change changes groups shape h =
    let first : length (flat_map (λ keyed. change_spelling keyed.1) (change ∷ changes)) ≡ length (change_spelling change.1) + length (flat_map (λ keyed. change_spelling keyed.1) changes) = length-append (change_spelling change.1) (flat_map (λ keyed. change_spelling keyed.1) changes) in
    let some : 0 < length (changes_spelling (changes_of table.name groups)) = omega (arith, h.shorter, first, change_takes_a_byte change.1) in
    let whole = length-append (header_spelling (map flag_byte table.key_marks) table.name) (flat_map (λ (keyed : List ℕ × Change). change_spelling keyed.1) (change ∷ changes)) in
    omega (arith, whole, h.shorter, with_header table groups shape some)

-- the bytes of the groups of these tables
abbrev sizes_of : List TableDef → List Group → ℕ
sizes_of [] groups = 0
sizes_of (table ∷ tables) groups = size_of table.name groups + sizes_of tables groups

tables_size : {groups : List Group} {tables : List TableDef} {normal : List TableChanges} → AllByRecursion (HaveShape groups) tables → AreTablesOf groups tables normal → length (normal_spelling normal) ≤ sizes_of tables groups
tables_size shape no_table = omega arith
tables_size {groups} shape (next table [] {tables} {normal} h rest) = omega (arith, tables_size shape.1 rest)
tables_size {groups} shape (next table (change ∷ changes) {tables} {normal} h rest) =
    let first = table_size table change changes groups shape.0 h in
    let more = tables_size shape.1 rest in
    simp length-append (omega (arith, simp length-append at first, more))

-- the bytes of a group, for each table whose name it has
abbrev sizes_if : List TableDef → Group → ℕ
sizes_if [] group = 0
sizes_if (table ∷ tables) group = size_if table.name group + sizes_if tables group

none_named : (table : TableDef) (tables : List TableDef) (group : Group) → AllByRecursion (HasOtherName table) tables → group.name ≡ table.name → sizes_if tables group ≡ 0
none_named table [] group apart same = refl
none_named table (other ∷ tables) group apart same =
    let e : bytes_eq group.name other.name ≡ false = other_named group.name other.name (λ is. apart.0 (sym same ∙ is)) in
    simp e (omega (arith, none_named table tables group apart.1 same))

-- a group has one table's name at most
once : (tables : List TableDef) (group : Group) → AreApart tables → sizes_if tables group ≤ length (group_spelling group)
once [] group apart = omega arith
once (table ∷ tables) group apart =
    by_test (bytes_eq group.name table.name) _ (λ e.
    let none = none_named table tables group apart.0 ((bytes_eq-Decides group.name table.name).0 e) in
    simp e (omega (arith, none))) (λ e. simp e (omega (arith, once tables group apart.1)))

no_groups : (tables : List TableDef) → sizes_of tables [] ≡ 0
no_groups [] = refl
no_groups (table ∷ tables) = omega (arith, no_groups tables)

one_more : (tables : List TableDef) (group : Group) (groups : List Group) → sizes_of tables (group ∷ groups) ≡ sizes_if tables group + sizes_of tables groups
one_more [] group groups = refl
one_more (table ∷ tables) group groups = omega (arith, one_more tables group groups)

all_sizes : (tables : List TableDef) (groups : List Group) → AreApart tables → sizes_of tables groups ≤ length (changeset_spelling groups)
all_sizes tables [] apart = omega (arith, no_groups tables)
all_sizes tables (group ∷ groups) apart =
    let whole : length (changeset_spelling (group ∷ groups)) ≡ length (group_spelling group) + length (changeset_spelling groups) = length-append (group_spelling group) (changeset_spelling groups) in
    omega (arith, whole, one_more tables group groups, once tables group apart, all_sizes tables groups apart)

pub is_shorter : {groups : List Group} {tables : List TableDef} {normal : List TableChanges} → AreApart tables → AllByRecursion (HaveShape groups) tables → AreTablesOf groups tables normal → length (normal_spelling normal) ≤ length (changeset_spelling groups)
is_shorter {groups} {tables} {normal} apart shape made =
    omega (arith, tables_size shape made, all_sizes tables groups apart)
