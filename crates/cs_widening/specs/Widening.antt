-- A table gets more columns, behind those that it has. None of them is a key column.
use Rattle.std.specs.Prelude.{◌≡◌, ℕ, ◌-◌, ◌<◌, ◌≤◌, false, List, ◌++◌, length, map, replicate, Contains, option_map, if◌then◌else◌}
use Rattle.std.specs.Str.{bytes_eq}
use Rattle.cs_value.specs.Catalog.{max_columns}
use Rattle.cs_value.specs.Key.{Place}
use Rattle.cs_value.specs.declared.catalog.TableDef.{TableDef}
use Rattle.cs_value.specs.declared.value.Value.{Value}
use Rattle.cs_value.specs.declared.value.Value.TheVariants.{Null}
use Rattle.cs_value.specs.declared.value.Field.{Field}
use Rattle.cs_value.specs.declared.value.Field.TheVariants.{Undefined}
use Rattle.cs_change.specs.Action.{Action, Inserts, Deletes, Updates}
use Rattle.cs_change.specs.declared.change.Change.{Change}
use Rattle.cs_change.specs.declared.change.Change.TheVariants.{Insert, Delete, Update}
use Rattle.cs_normal.specs.keyed.Changes.{Changes}
use Rattle.cs_normal.specs.State.{State}
use Rattle.cs_normal.specs.declared.normal.TableChanges.{TableChanges}

-- the list, filled up to this length with one value
abbrev pub up_to : {A : Type 0} → ℕ → A → List A → List A
up_to width more list = list ++ replicate (width - length list) more

-- ---- the tables

-- the table with this name has so many columns
abbrev pub widened_table : List ℕ → ℕ → TableDef → TableDef
widened_table name width table =
    if bytes_eq table.name name then record table { key_marks = up_to width false table.key_marks } else table

abbrev pub widened_tables : List ℕ → ℕ → List TableDef → List TableDef
widened_tables name width tables = map (widened_table name width) tables

-- a table has the name, and fewer columns than these, which a table may have
abbrev pub CanWiden : List TableDef → List ℕ → ℕ → Type 0
CanWiden tables name width =
    (table : TableDef) × Contains tables table × (table.name ≡ name)
    × (length table.key_marks < width) × (width ≤ max_columns)

-- ---- what stands at a place: a row has NULL in the new columns

abbrev pub widened_row : ℕ → List Value → List Value
widened_row width row = up_to width Null row

abbrev pub widened_place : ℕ → Place → Place
widened_place width place = option_map (widened_row width) place

-- so does each row of the table with this name
abbrev pub widened : List ℕ → ℕ → State → State
widened name width state = λ table key.
    if bytes_eq table name then widened_place width (state table key) else state table key

-- ---- changes: INSERT and DELETE have NULL in the new columns, and an UPDATE doesn't modify them

abbrev pub widened_fields : ℕ → List Field → List Field
widened_fields width fields = up_to width Undefined fields

abbrev pub widened_action : ℕ → Action → Action
widened_action width (Inserts new) = Inserts (widened_row width new)
widened_action width (Deletes old) = Deletes (widened_row width old)
widened_action width (Updates old new) = Updates (widened_fields width old) (widened_fields width new)

-- its indirect flag stays
abbrev pub widened_change : ℕ → Change → Change
widened_change width (Insert flag new) = Insert flag (widened_row width new)
widened_change width (Delete flag old) = Delete flag (widened_row width old)
widened_change width (Update flag old new) = Update flag (widened_fields width old) (widened_fields width new)

-- a change behind the bytes of its key, which stay
abbrev pub widened_entry : ℕ → List ℕ × Change → List ℕ × Change
widened_entry width entry = (entry.0, widened_change width entry.1)

abbrev pub widened_in : ℕ → Changes → Changes
widened_in width changes = map (widened_entry width) changes

-- the changes of the table with this name
abbrev pub widened_of_table : List ℕ → ℕ → TableChanges → TableChanges
widened_of_table name width table =
    if bytes_eq table.name name
    then record { name = table.name; marks = up_to width false table.marks; changes = widened_in width table.changes }
    else table

abbrev pub widened_changes : List ℕ → ℕ → List TableChanges → List TableChanges
widened_changes name width changes = map (widened_of_table name width) changes
