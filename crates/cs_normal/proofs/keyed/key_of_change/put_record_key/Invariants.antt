use Rattle.std.proofs.Common.{◌≡◌, ◌++◌, ◌&&◌, length}
use Rattle.std.specs.List.{list_all}
use Rattle.cs_record.specs.Spelling.{Extends}
use Rattle.cs_value.specs.Catalog.{is_set}
use Rattle.cs_normal.specs.keyed.Changes.{key_bytes}
use Rattle.cs_normal.specs.keyed.NormalForm.{marked_fields}
use Rattle.cs_normal.proofs.keyed.key_of_change.put_record_key.Given as goal

abbrev pub invariant-loop-mark : goal.invariant-loop-mark
invariant-loop-mark l =
    (l.out.items ++ key_bytes (marked_fields l.marks l.fields) ≡ l.fn.out.items ++ key_bytes (marked_fields l.fn.marks l.fn.fields))
    × ((l.whole && list_all is_set (marked_fields l.marks l.fields)) ≡ list_all is_set (marked_fields l.fn.marks l.fn.fields))
    × Extends l.fn.out.items l.out.items

abbrev pub decreases-loop-mark : goal.decreases-loop-mark
decreases-loop-mark l = length l.marks
