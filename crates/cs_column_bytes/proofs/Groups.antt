-- Groups with the column bytes that came in.
use Rattle.std.proofs.Common.{◌≡◌, ℕ, suc, ◌+◌, Bool, length, true, false, List, [], ◌∷◌, ◌++◌, map, refl, sym, subst, ap, get_or, ◌∙◌, append_assoc}
use Rattle.std.specs.List.{AllByRecursion, AllZip, flat_map}
use Rattle.std.specs.Str.{bytes_eq}
use Rattle.std.proofs.lemmas.List.Elements.{recursion_from_All}
use Rattle.std.proofs.lemmas.List.{length-append, length-map}
use Rattle.std.proofs.lemmas.List.Folds.{flat_map-map}
use Rattle.std.proofs.lemmas.Slice.Eq.{bytes_eq-Decides}
use Rattle.cs_varint.specs.Varint.{spelling}
use Rattle.cs_change.specs.Facts.{marks_stay}
use Rattle.cs_change.specs.Spelling.{flag_byte, is_nonzero, marks_of, change_spelling, changes_spelling, header_spelling, group_spelling, changeset_spelling, FitsChange, FitsChangeset, FitsHeader}
use Rattle.cs_change.specs.declared.change.Change.{Change}
use Rattle.cs_change.specs.declared.group.Group.{Group}
use Rattle.cs_normal.specs.Laws.{NormalIsTaken}
use Rattle.cs_normal.specs.Normal.{groups_of}
use Rattle.cs_normal.specs.declared.normal.TableChanges.{TableChanges}
use Rattle.cs_column_bytes.specs.KeyPlaces.{Head, columns_of, group_for_sqlite, for_sqlite}
use Rattle.cs_column_bytes.specs.Laws.{IsHeadOf, IsSameGroup, SameLength, StaysTheSame}

-- a header, and the changes without their keys, are the group
pub spelled : (heads : List Head) (table : TableChanges) (old headed new : List ℕ)
    → headed ≡ old ++ header_spelling (columns_of table.name (map flag_byte table.marks) heads) table.name
    → new ≡ headed ++ flat_map (λ (keyed : List ℕ × Change). change_spelling keyed.1) table.changes
    → new ≡ old ++ group_spelling (group_for_sqlite heads table)
spelled heads table old headed new header changes =
    let head : List ℕ = header_spelling (columns_of table.name (map flag_byte table.marks) heads) table.name in
    let alike = flat_map-map change_spelling (λ (keyed : List ℕ × Change). keyed.1) table.changes in
    changes ∙ ap (λ (bytes : List ℕ). bytes ++ flat_map (λ (keyed : List ℕ × Change). change_spelling keyed.1) table.changes) header
    ∙ append_assoc old head (flat_map (λ (keyed : List ℕ × Change). change_spelling keyed.1) table.changes)
    ∙ ap (λ (bytes : List ℕ). old ++ (head ++ bytes)) (sym alike)

-- column bytes of this table that a header can have
record Suits (table : TableChanges) (columns : List ℕ) : Type 0 where
  marks : marks_of columns ≡ table.marks
  header : FitsHeader columns table.name

found : (table : TableChanges) (other : List ℕ) (heads : List Head) → Suits table other → AllByRecursion (λ (head : Head). IsHeadOf head table) heads
    → Suits table (columns_of table.name other heads)
unfolding columns_of
found table other [] fits each = fits
found table other (head ∷ heads) fits each =
    let split : (test : Bool) → bytes_eq head.0 table.name ≡ test → Suits table (columns_of table.name other (head ∷ heads)) =
    elim [
      | true ↦ λ e.
          let same : head.0 ≡ table.name = (bytes_eq-Decides head.0 table.name).0 e in
          let one : Suits table head.1 = record {
            marks = (each.0 same).0;
            header = subst (λ (name : List ℕ). FitsHeader head.1 name) same (each.0 same).1;
          } in
          rw e one
      | false ↦ λ e. rw e (found table other heads fits each.1)
    ] in
    split (bytes_eq head.0 table.name) refl

stays : (heads : List Head) (tables : List TableChanges)
    → FitsChangeset (groups_of tables)
    → AllByRecursion (λ (table : TableChanges). AllByRecursion (λ (head : Head). IsHeadOf head table) heads) tables
    → AllZip IsSameGroup (for_sqlite heads tables) (groups_of tables) × FitsChangeset (for_sqlite heads tables)
stays heads [] fits each = (tt, tt)
stays heads (table ∷ tables) fits each =
    let rest = stays heads tables fits.1 each.1 in
    let plain : List ℕ = map flag_byte table.marks in
    let first = found table plain heads (record { marks = marks_stay table.marks; header = fits.0.0 }) each.0 in
    let same : marks_of plain ≡ marks_of (columns_of table.name plain heads) = marks_stay table.marks ∙ sym first.marks in
    let changes = subst (λ (marks : List Bool). AllByRecursion (FitsChange marks) (map (λ (keyed : List ℕ × Change). keyed.1) table.changes)) same fits.0.1 in
    (((refl, sym same, refl), rest.0), ((first.header, changes), rest.1))

pub stays_the_same : NormalIsTaken → StaysTheSame
stays_the_same taken heads tables normal are =
    stays heads tables (taken tables normal).0 (recursion_from_All (λ (table : TableChanges). AllByRecursion (λ (head : Head). IsHeadOf head table) heads) tables
    (λ k d less. recursion_from_All (λ (head : Head). IsHeadOf head (get_or tables k d)) heads (are k d less)))

-- column bytes of the same key columns are as many
as_many : (marks others : List ℕ) → marks_of marks ≡ marks_of others → length marks ≡ length others
as_many marks others same =
    sym (length-map marks is_nonzero) ∙ ap length same ∙ length-map others is_nonzero

same_head : (marks others name : List ℕ) → length marks ≡ length others → length (header_spelling marks name) ≡ length (header_spelling others name)
same_head marks others name many =
    let front : List ℕ → List ℕ = λ bytes. spelling (length bytes) ++ bytes in
    let long : (bytes : List ℕ) → length (front bytes ++ name ++ 0 ∷ []) ≡ length (spelling (length bytes)) + length bytes + length name + 1 =
    λ bytes. rw (length-append (front bytes ++ name) (0 ∷ []), length-append (front bytes) name, length-append (spelling (length bytes)) bytes) refl in
    ap suc (long marks ∙ ap (λ (n : ℕ). length (spelling n) + n + length name + 1) many ∙ sym (long others))

same_group : (group other : Group) → IsSameGroup group other → length (group_spelling group) ≡ length (group_spelling other)
same_group group other same =
    let head = same_head group.marks other.marks group.name (as_many group.marks other.marks same.1) in
    let changes : Group → ℕ = λ g. length (changes_spelling g.changes) in
    length-append (header_spelling group.marks group.name) (changes_spelling group.changes)
    ∙ ap (λ (n : ℕ). n + length (changes_spelling group.changes)) (head ∙ ap (λ (name : List ℕ). length (header_spelling other.marks name)) same.0)
    ∙ ap (λ (cs : List Change). length (header_spelling other.marks other.name) + length (changes_spelling cs)) same.2
    ∙ sym (length-append (header_spelling other.marks other.name) (changes_spelling other.changes))

pub same_length : SameLength
same_length [] [] each = refl
same_length [] (other ∷ others) each = absurd each
same_length (group ∷ groups) [] each = absurd each
same_length (group ∷ groups) (other ∷ others) each =
    length-append (group_spelling group) (changeset_spelling groups)
    ∙ ap (λ (n : ℕ). n + length (changeset_spelling groups)) (same_group group other each.0)
    ∙ ap (λ (n : ℕ). length (group_spelling other) + n) (same_length groups others each.1)
    ∙ sym (length-append (group_spelling other) (changeset_spelling others))
