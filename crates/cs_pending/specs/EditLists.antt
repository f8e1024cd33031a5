-- Edits one behind another.
use Rattle.std.specs.Prelude.{◌≡◌, ℕ, List, [], ◌∷◌, Some, Ok, Err, slice_get, take}
use Rattle.cs_value.specs.declared.catalog.TableDef.{TableDef}
use Rattle.cs_value.specs.declared.edit.Edit.{Edit}
use Rattle.cs_value.specs.declared.edit.Edit.TheVariants.{Insert, Update, Delete}
use Rattle.cs_pending.specs.Edits.{AskDelete, AskInsert, AskUpdate, Asked, edit}
use Rattle.cs_pending.specs.Shows.{IsSoundOf}
use Rattle.cs_pending.specs.View.{View}
use Rattle.cs_pending.specs.declared.fault.EditFault.{EditFault}
use Rattle.cs_pending.specs.declared.fault.EditFault.TheVariants as one
use Rattle.cs_pending.specs.declared.fault.EditsFault.{EditsFault}
use Rattle.cs_pending.specs.declared.fault.EditsFault.TheVariants.{Memory, Device, Refused}

-- the name of an edit's table
abbrev pub table_of_edit : Edit → List ℕ
table_of_edit (Insert table row) = table
table_of_edit (Update table key fields) = table
table_of_edit (Delete table key) = table

-- and what it asks for there
abbrev pub asked_of_edit : Edit → Asked
asked_of_edit (Insert table row) = AskInsert row
asked_of_edit (Update table key fields) = AskUpdate key fields
asked_of_edit (Delete table key) = AskDelete key

-- each is made on what those before it left, and leaves a sound view
abbrev pub AreEdited : List TableDef → List Edit → View → View → Type 0
AreEdited tables [] view end = end ≡ view
AreEdited tables (asked ∷ edits) view end =
    (next : View) × (edit tables (table_of_edit asked) (asked_of_edit asked) view ≡ Ok next) × IsSoundOf tables next.pending next.tables
    × AreEdited tables edits next end

-- those before this one are made, and this one is refused
pub record IsRefusedAt (tables : List TableDef) (edits : List Edit) (view : View) (at : ℕ) (fault : EditFault) : Type 0 where
  pub between : View
  pub edited : AreEdited tables (take at edits) view between
  pub asked : Edit
  pub there : slice_get edits at ≡ Some asked
  pub refused : edit tables (table_of_edit asked) (asked_of_edit asked) between ≡ Err fault

-- why edits are refused; being out of memory and a failed device say nothing of them
abbrev pub IsEditsFault : List TableDef → List Edit → View → EditsFault → Type 0
IsEditsFault tables edits view Memory = Unit {0}
IsEditsFault tables edits view Device = Unit {0}
IsEditsFault tables edits view (Refused at fault) = IsRefusedAt tables edits view at fault

-- the fault of the edit there
abbrev pub fault_at : ℕ → EditFault → EditsFault
fault_at at one.Memory = Memory
fault_at at one.Device = Device
fault_at at one.NoTable = Refused at one.NoTable
fault_at at one.Width = Refused at one.Width
fault_at at one.NullKey = Refused at one.NullKey
fault_at at one.Exists = Refused at one.Exists
fault_at at one.Missing = Refused at one.Missing
fault_at at one.KeyColumn = Refused at one.KeyColumn
