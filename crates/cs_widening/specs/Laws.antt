-- The laws of tables that get more columns.
use Rattle.std.specs.Prelude.{◌≡◌, ℕ, ◌-◌, Bool, true, false, List, [], ◌∷◌, ◌++◌, length, option_map, replicate}
use Rattle.cs_value.specs.Catalog.{AreTables}
use Rattle.cs_value.specs.Decided.{OrNot}
use Rattle.cs_value.specs.Key.{Place, FitsPlace}
use Rattle.cs_value.specs.declared.catalog.TableDef.{TableDef}
use Rattle.cs_value.specs.declared.value.Value.{Value}
use Rattle.cs_value.specs.declared.value.Field.{Field}
use Rattle.cs_record.specs.Spelling.{null_type, record_of, row_bytes, undefined_type}
use Rattle.cs_change.specs.Net.{net}
use Rattle.cs_normal.specs.Normal.{IsNormalChangeset}
use Rattle.cs_normal.specs.State.{State, IsApplied, IsStateOf}
use Rattle.cs_normal.specs.declared.normal.TableChanges.{TableChanges}
use Rattle.cs_widening.specs.Widening.{CanWiden, up_to, widened, widened_action, widened_changes, widened_fields, widened_place, widened_row, widened_tables}

-- the table `t`, of which the first column is the key
abbrev pub table_t : List Bool → TableDef
table_t others = record { name = 116 ∷ []; key_marks = true ∷ others }

-- with two columns it can get a third
abbrev pub WideningCanBe : Type 0
WideningCanBe =
    CanWiden (table_t (false ∷ []) ∷ []) (116 ∷ []) 3
    × (widened_tables (116 ∷ []) 3 (table_t (false ∷ []) ∷ []) ≡ table_t (false ∷ false ∷ []) ∷ [])

-- whether a table can get so many columns is decided
abbrev pub CanWidenOrNot : Type 0
CanWidenOrNot = (tables : List TableDef) (name : List ℕ) (width : ℕ) → OrNot (CanWiden tables name width)

-- tables of which one gets more columns are a catalog
abbrev pub WidenedAreTables : Type 0
WidenedAreTables =
    (tables : List TableDef) (name : List ℕ) (width : ℕ)
    → AreTables tables
    → CanWiden tables name width
    → AreTables (widened_tables name width tables)

-- what stood at the place of a key stands at it
abbrev pub WidenedFits : Type 0
WidenedFits =
    (width : ℕ) (marks : List Bool) (key : List Value) (place : Place)
    → FitsPlace marks key place
    → FitsPlace (up_to width false marks) key (widened_place width place)

-- the net change of what stands there then is that of what stood there, with the new columns
abbrev pub NetWidens : Type 0
NetWidens =
    (width : ℕ) (marks : List Bool) (key : List Value) (base end : Place)
    → FitsPlace marks key base
    → FitsPlace marks key end
    → net (up_to width false marks) (widened_place width base) (widened_place width end)
    ≡ option_map (widened_action width) (net marks base end)

-- a state of the tables is then one of those with the new columns
abbrev pub WidenedIsState : Type 0
WidenedIsState =
    (tables : List TableDef) (name : List ℕ) (width : ℕ) (state : State)
    → IsStateOf tables state
    → IsStateOf (widened_tables name width tables) (widened name width state)

-- a changeset that was made before is in normal form with the new columns, is defined on the state with them, and leaves what it
-- left, with them
abbrev pub AppliedWidens : Type 0
AppliedWidens =
    (tables : List TableDef) (name : List ℕ) (width : ℕ) (changes : List TableChanges) (before end : State)
    → AreTables tables
    → CanWiden tables name width
    → IsStateOf tables before
    → IsNormalChangeset changes
    → IsApplied tables changes before end
    → IsNormalChangeset (widened_changes name width changes)
    × IsApplied (widened_tables name width tables) (widened_changes name width changes) (widened name width before) (widened name width end)

-- a row has a NULL's byte behind it for each new column, a record of an UPDATE an undefined field's
abbrev pub BytesWiden : Type 0
BytesWiden =
    (width : ℕ) (row : List Value) (fields : List Field)
    → (row_bytes (widened_row width row) ≡ row_bytes row ++ replicate (width - length row) null_type)
    × (record_of (widened_fields width fields) ≡ record_of fields ++ replicate (width - length fields) undefined_type)
