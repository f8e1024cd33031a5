-- Edits, as an application asks for them: what each leaves, or the first fault that holds.
use Rattle.std.specs.Prelude.{◌≡◌, ◌⊎◌, ℕ, suc, nat_eq, Bool, true, not, ◌&&◌, ◌∷◌, [], if◌then◌else◌, List, Option, Some, None, Result, Ok, Err, length}
use Rattle.std.specs.List.{list_all, AllByRecursion}
use Rattle.std.specs.Str.{bytes_eq}
use Rattle.cs_value.specs.Catalog.{marked, is_set}
use Rattle.cs_value.specs.Key.{Place}
use Rattle.cs_value.specs.declared.catalog.TableDef.{TableDef}
use Rattle.cs_value.specs.declared.value.Value.{Value}
use Rattle.cs_value.specs.declared.value.Field.{Field}
use Rattle.cs_record.specs.Spelling.{Fits}
use Rattle.cs_change.specs.Columns.{is_defined, set_columns}
use Rattle.cs_normal.specs.Changes.{key_bytes}
use Rattle.cs_normal.specs.State.{IsRowOf}
use Rattle.cs_store.specs.Contents.{Contents}
use Rattle.cs_pending.specs.View.{View, edited}
use Rattle.cs_pending.specs.Shows.{ShowsRows, SameRest}
use Rattle.cs_pending.specs.declared.fault.EditFault.{EditFault}
use Rattle.cs_pending.specs.declared.fault.EditFault.TheVariants.{Memory, NoTable, Width, NullKey, Exists, Missing, KeyColumn, Device}
use Rattle.cs_pending.specs.declared.wanted.Wanted.{Wanted}
use Rattle.cs_pending.specs.declared.wanted.Wanted.TheVariants.{Insert, Update, Delete}

-- ---- at one place

-- what an edit leaves of a row or none, or why it leaves nothing
abbrev pub after_edit : Wanted → Place → Result Place EditFault
after_edit (Insert row) None = Ok (Some row)
after_edit (Insert row) (Some mine) = Err Exists
after_edit (Update fields) None = Err Missing
after_edit (Update fields) (Some mine) = Ok (Some (set_columns fields mine))
after_edit Delete None = Err Missing
after_edit Delete (Some mine) = Ok None

-- the view with what is left at a place
abbrev pub left_in : TableDef → List ℕ → View → Result Place EditFault → Result View EditFault
left_in table key view (Ok mine) = Ok (edited table key mine view)
left_in table key view (Err fault) = Err fault

abbrev pub edit_at : TableDef → List ℕ → Wanted → View → Result View EditFault
edit_at table key wanted view = left_in table key view (after_edit wanted (view.tables table.name key))

-- no field at a key column is defined
unfoldable pub keeps_key : List Bool → List Field → Bool
keeps_key (mark ∷ marks) (field ∷ fields) = not (mark && is_defined field) && keeps_key marks fields
keeps_key _ _ = true

-- what can be asked at a place: a row of the table at its key, or fields that fit the table and keep the key
abbrev pub IsWantedAt : TableDef → List ℕ → Wanted → Type 0
IsWantedAt table key (Insert row) = IsRowOf table key row
IsWantedAt table key (Update fields) =
    (length fields ≡ length table.key_marks) × AllByRecursion Fits fields × (keeps_key table.key_marks fields ≡ true)
IsWantedAt table key Delete = Unit {0}

-- ---- in a table

-- a row that is put in, fields that are put into the row with a key, or that this row goes
pub data Asked : Type 0 where
  AskInsert : List Value → Asked
  AskUpdate : List Value → List Field → Asked
  AskDelete : List Value → Asked

abbrev pub wanted_of : Asked → Wanted
wanted_of (AskInsert row) = Insert row
wanted_of (AskUpdate key fields) = Update fields
wanted_of (AskDelete key) = Delete

-- the key of the row that is meant
abbrev pub asked_key : TableDef → Asked → List Value
asked_key table (AskInsert row) = marked table.key_marks row
asked_key table (AskUpdate key fields) = key
asked_key table (AskDelete key) = key

-- how many key columns there are
unfoldable pub key_width : List Bool → ℕ
key_width [] = 0
key_width (mark ∷ marks) = if mark then suc (key_width marks) else key_width marks

-- row, fields and key have the table's widths
abbrev pub has_widths : TableDef → Asked → Bool
has_widths table (AskInsert row) = nat_eq (length row) (length table.key_marks)
has_widths table (AskUpdate key fields) =
    nat_eq (length key) (key_width table.key_marks) && nat_eq (length fields) (length table.key_marks)
has_widths table (AskDelete key) = nat_eq (length key) (key_width table.key_marks)

-- no value of the key is NULL
abbrev pub has_set_key : TableDef → Asked → Bool
has_set_key table asked = list_all is_set (asked_key table asked)

-- no field of an update is one of the key
abbrev pub leaves_key : TableDef → Asked → Bool
leaves_key table (AskInsert row) = true
leaves_key table (AskUpdate key fields) = keeps_key table.key_marks fields
leaves_key table (AskDelete key) = true

abbrev pub edit_table : TableDef → Asked → View → Result View EditFault
edit_table table asked view =
    if not (has_widths table asked) then Err Width
    else if not (has_set_key table asked) then Err NullKey
    else if not (leaves_key table asked) then Err KeyColumn
    else edit_at table (key_bytes (asked_key table asked)) (wanted_of asked) view

-- ---- by the name of a table

-- the first table with this name
unfoldable pub named : List ℕ → List TableDef → Option TableDef
named name [] = None
named name (table ∷ tables) = if bytes_eq table.name name then Some table else named name tables

abbrev pub edit_found : Option TableDef → Asked → View → Result View EditFault
edit_found None asked view = Err NoTable
edit_found (Some table) asked view = edit_table table asked view

-- the view after an edit, or its fault
abbrev pub edit : List TableDef → List ℕ → Asked → View → Result View EditFault
edit tables name asked view = edit_found (named name tables) asked view

-- a fault that says nothing of the edit
abbrev pub IsOfStore : EditFault → Type 0
IsOfStore fault = (fault ≡ Memory) ⊎ (fault ≡ Device)

-- ---- in a store

-- contents whose rows and pending changes are those after a step, and else the same
abbrev pub IsChangedBy : List TableDef → (View → View → Type 0) → Contents → Contents → Type 0
IsChangedBy tables step old new =
    SameRest tables old new
    × ((view : View) → ShowsRows tables old view → (next : View) × step view next × ShowsRows tables new next)

-- where the first leads from a view to what it leaves
abbrev pub Leads : {E : Type 0} → (View → Result View E) → View → View → Type 0
Leads step view next = step view ≡ Ok next
