-- Which conflicts a closure is shown.
use Rattle.std.specs.Prelude.{◌≡◌, List, Some, slice_get}
use Rattle.cs_value.specs.declared.catalog.TableDef.{TableDef}
use Rattle.cs_change.specs.Action.{action}
use Rattle.cs_normal.specs.Normal.{change_of}
use Rattle.cs_normal.specs.keyed.NormalForm.{change_bytes}
use Rattle.cs_normal.specs.State.{State}
use Rattle.cs_normal.specs.declared.normal.TableChanges.{TableChanges}
use Rattle.cs_conflict.specs.Conflict.{kind}
use Rattle.cs_conflict.specs.declared.conflict.Conflict.{Conflict}

-- its kind is that of the change at the row, and the row is what the state holds at the change's place
pub record IsConflictOn (tables : List TableDef) (state : State) (conflict : Conflict) : Type 0 where
  pub table : TableDef
  pub stands : slice_get tables conflict.table ≡ Some table
  pub of_kind : kind (action conflict.change) conflict.row ≡ Some conflict.kind
  pub of_row : conflict.row ≡ state table.name (change_bytes table.key_marks conflict.change)

-- and the change is one of the changeset's
pub record IsConflictIn (tables : List TableDef) (changes : List TableChanges) (state : State) (conflict : Conflict) : Type 0 where
  pub shown : IsConflictOn tables state conflict
  pub of_change : change_of shown.table.name (change_bytes shown.table.key_marks conflict.change) changes ≡ Some conflict.change
