-- Facts about groups that fit a table, and about keys. Crates above cite them.
use Rattle.std.specs.Prelude.{◌≡◌, Bool, List, true, false, ◌&&◌, refl}
use Rattle.std.proofs.Common.{ap}
use Rattle.std.specs.Bool.{beq}
use Rattle.std.specs.Cmp.{booleans_Decides}
use Rattle.std.specs.Cmp.Lexicographic.{pointwise}
use Rattle.std.specs.List.{list_all}
use Rattle.std.specs.Str.{bytes_eq}
use Rattle.std.proofs.lemmas.Slice.Eq.{slice_eq-Decides}
use Rattle.cs_value.specs.Catalog.{is_set}
use Rattle.cs_value.specs.declared.catalog.TableDef.{TableDef}
use Rattle.cs_change.specs.Spelling.{marks_of}
use Rattle.cs_change.specs.declared.change.Change.{Change}
use Rattle.cs_change.specs.declared.change.Change.TheVariants.{Insert, Delete, Update}
use Rattle.cs_change.specs.declared.group.Group.{Group}
use Rattle.cs_normal.specs.keyed.Changes.{key_bytes}
use Rattle.cs_normal.specs.keyed.NormalForm.{HaveSameKeys, change_bytes, has_key}
use Rattle.cs_tasks.specs.Tasks.{fits_table}

and_right : (a b : Bool) → (a && b) ≡ true → b ≡ true
and_right true b h = h
and_right false b h = cc

-- a group that fits a table has its key columns
pub fits_same : (group : Group) (table : TableDef) → fits_table group table ≡ true → marks_of group.marks ≡ table.key_marks
fits_same group table e =
    (slice_eq-Decides booleans_Decides (marks_of group.marks) table.key_marks _ refl).0
    (and_right (bytes_eq group.name table.name) (pointwise beq (marks_of group.marks) table.key_marks) e)

-- a change has the same key by the marks up to the last key column
pub same_key : (front marks : List Bool) (change : Change) → HaveSameKeys front marks
    → (change_bytes front change ≡ change_bytes marks change) × (has_key front change ≡ has_key marks change)
same_key front marks (Insert flag row) same = (ap key_bytes (same.0 row), ap (list_all is_set) (same.0 row))
same_key front marks (Delete flag row) same = (ap key_bytes (same.0 row), ap (list_all is_set) (same.0 row))
same_key front marks (Update flag old new) same = (ap key_bytes (same.1 old), ap (list_all is_set) (same.1 old))
