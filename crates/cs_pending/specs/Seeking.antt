-- Where an edit of a table is, and what it wants there.
use Rattle.std.specs.Prelude.{◌≡◌, ◌≢◌, ◌⊎◌, ℕ, Err}
use Rattle.std.specs.Global.{Vec}
use Rattle.cs_value.specs.declared.catalog.TableDef.{TableDef}
use Rattle.cs_pending.specs.Edits.{AskDelete, AskInsert, AskUpdate, Asked, IsWantedAt, edit_at, edit_table}
use Rattle.cs_pending.specs.View.{View}
use Rattle.cs_pending.specs.declared.edits.RowEdit.{RowEdit}
use Rattle.cs_pending.specs.declared.edits.RowEdit.TheVariants.{Insert, Update, Delete}
use Rattle.cs_pending.specs.declared.fault.EditFault.{EditFault}
use Rattle.cs_pending.specs.declared.fault.EditFault.TheVariants.{Memory, Device}
use Rattle.cs_pending.specs.declared.wanted.Wanted.{Wanted}

-- what is asked for
abbrev pub asked_of : RowEdit → Asked
asked_of (Insert row) = AskInsert row.now
asked_of (Update key fields) = AskUpdate key.now fields.now
asked_of (Delete key) = AskDelete key.now

-- what is asked of a table is this, at the bytes of this key
pub record IsSought (table : TableDef) (asked : Asked) (sought : Vec ℕ × Wanted) : Type 0 where
  pub wanted : IsWantedAt table sought.0.items sought.1
  pub leads : (view : View) → edit_table table asked view ≡ edit_at table sought.0.items sought.1 view

-- memory was refused, or whatever is shown, what is asked of a table has this fault, which isn't the device's
abbrev pub IsRefused : TableDef → Asked → EditFault → Type 0
IsRefused table asked fault = (fault ≡ Memory) ⊎ (fault ≢ Device × ((view : View) → edit_table table asked view ≡ Err fault))
