-- The tables of a normal form are in normal form.
use Rattle.std.proofs.Common.{◌≡◌, ℕ, ◌+◌, ◌<◌, Bool, List, [], ◌∷◌, length, map, sym, subst, ap, ◌∙◌, arith, length-append}
use Rattle.std.specs.List.{AllByRecursion, flat_map, list_any}
use Rattle.std.specs.Str.{bytes_eq}
use Rattle.std.proofs.lemmas.List.{length-map}
use Rattle.std.proofs.lemmas.Slice.Eq.{bytes_eq-Decides}
use Rattle.cs_value.specs.Facts.{by_test}
use Rattle.cs_value.specs.declared.catalog.TableDef.{TableDef}
use Rattle.cs_change.specs.Spelling.{flag_byte, is_nonzero, marks_of, change_spelling, changes_spelling, FitsHeader, FitsChangeset}
use Rattle.cs_change.specs.declared.group.Group.{Group}
use Rattle.cs_change.specs.Facts.{marks_stay}
use Rattle.cs_normal.specs.Normal.{IsNormalTable}
use Rattle.cs_normal.specs.declared.normal.TableChanges.{TableChanges}
use Rattle.cs_normal.specs.NormalFacts.{any_mark}
use Rattle.cs_normalising.specs.NormalFormOf.{changes_of}
use Rattle.cs_normalising.specs.Steps.TableByTable.{AreTablesOf, no_table, next}
use Rattle.cs_normalising.proofs.PerTable.{AreAsRead}
use Rattle.cs_normalising.proofs.Shorter.{HaveShape, change_takes_a_byte}

-- the header of a group with these marks, written as 1 and 0
header_again : (read : List ℕ) (marks : List Bool) (name : List ℕ) → marks_of read ≡ marks → FitsHeader read name → FitsHeader (map flag_byte marks) name
header_again read marks name same h =
    let wide : length (map flag_byte marks) ≡ length read = length-map marks flag_byte ∙ ap length (sym same) ∙ length-map read is_nonzero in
    record {
      some = omega (arith, wide, h.some);
      limit = omega (arith, wide, h.limit);
      key = any_mark (map flag_byte marks) ∙ ap (list_any (λ m. m)) (marks_stay marks ∙ sym same) ∙ sym (any_mark read) ∙ h.key;
      text = h.text;
      ended = h.ended;
    }

-- where a table has changes, a group has its header
header_of : (table : TableDef) (groups : List Group) → HaveShape groups table → FitsChangeset groups → 0 < length (changes_spelling (changes_of table.name groups)) → FitsHeader (map flag_byte table.key_marks) table.name
header_of table [] shape fits some = absurd (omega (arith, some))
header_of table (group ∷ groups) shape fits some =
    by_test (bytes_eq group.name table.name) _ (λ e.
    let same : group.name ≡ table.name = (bytes_eq-Decides group.name table.name).0 e in
    header_again group.marks table.key_marks table.name (shape.0 same) (subst (FitsHeader group.marks) same fits.0.0)) (λ e.
    let some' : 0 < length (changes_spelling (changes_of table.name groups)) = simp e at some in
    header_of table groups shape.1 fits.1 some')

pub tables_normal : {groups : List Group} {tables : List TableDef} {normal : List TableChanges} → FitsChangeset groups → AllByRecursion (HaveShape groups) tables → AllByRecursion (AreAsRead groups) tables → AreTablesOf groups tables normal → AllByRecursion IsNormalTable normal
tables_normal fits shape read no_table = tt
tables_normal fits shape read (next table [] h rest) = tables_normal fits shape.1 read.1 rest
tables_normal {groups} fits shape read (next table (change ∷ changes) h rest) =
    let first : length (flat_map (λ keyed. change_spelling keyed.1) (change ∷ changes)) ≡ length (change_spelling change.1) + length (flat_map (λ keyed. change_spelling keyed.1) changes) = length-append (change_spelling change.1) (flat_map (λ keyed. change_spelling keyed.1) changes) in
    let some : 0 < length (changes_spelling (changes_of table.name groups)) = omega (arith, h.shorter, first, change_takes_a_byte change.1) in (
      record {
        changes = (h.normal.ordered, h.entries read.0);
        some = λ e. cc;
        header = header_of table groups shape.0 fits some;
      },
      tables_normal fits shape.1 read.1 rest,
    )
