-- What the code has found on its way: no definition that a public clause cites.
use Rattle.std.specs.Prelude.{◌≡◌, ◌+◌, ℕ, Bool, List, [], ◌∷◌, length, Option, Some, None}
use Rattle.std.specs.List.{AllByRecursion}
use Rattle.cs_value.specs.Key.{Place}
use Rattle.cs_value.specs.declared.catalog.TableDef.{TableDef}
use Rattle.cs_change.specs.Action.{action}
use Rattle.cs_change.specs.Net.{net}
use Rattle.cs_change.specs.Spelling.{FitsChange, change_spelling}
use Rattle.cs_change.specs.declared.change.Change.{Change}
use Rattle.cs_normal.specs.declared.normal.TableChanges.{TableChanges}
use Rattle.cs_store.specs.Contents.{Contents, IsListing, log_count, meta_value, stored_pending, stored_tables}
use Rattle.cs_store.specs.States.{IsStored}
use Rattle.cs_store.specs.Whole.{IsWhole}
use Rattle.cs_store.specs.declared.names.MetaName.TheVariants.{Pending}
use Rattle.cs_pending.specs.Shows.{ShowsRows}
use Rattle.cs_pending.specs.View.{View, middle, undo}
use Rattle.cs_pending.specs.declared.position.position.Position.{Position}
use Rattle.cs_opening.specs.Opens.{StandsAt, StandsNowhere}

-- ---- changes and the rows that they lead to

-- a change is the net change that leads to what stands at its place, from what it says that stood there
abbrev pub IsNetTo : List Bool → Change → Place → Type 0
IsNetTo marks change place = net marks (undo (Some (action change)) place) place ≡ Some (action change)

-- bytes spell a row of the table, or there are none, and others a change that leads to it
pub record IsLeading (table : TableDef) (row : Option (List ℕ)) (body : List ℕ) : Type 0 where
  pub change : Change
  pub place : Place
  pub fits : FitsChange table.key_marks change
  pub spelled : body ≡ change_spelling change
  pub stored : IsStored (length table.key_marks) row place
  pub leads : IsNetTo table.key_marks change place

-- each listed change does
abbrev pub AreLeading : Contents → ℕ → TableDef → List (List ℕ × List ℕ) → Type 0
AreLeading contents number table rows =
    AllByRecursion (λ row. IsLeading table (stored_tables contents number row.0) row.1) rows

-- each pending change of the table with this number does
abbrev pub TableLeads : Contents → ℕ → TableDef → Type 0
TableLeads contents number table =
    (key body : List ℕ) → stored_pending contents number key ≡ Some body
    → IsLeading table (stored_tables contents number key) body

-- the same of tables, of which the first has this number
abbrev pub TablesLead : Contents → ℕ → List TableDef → Type 0
TablesLead contents number [] = Unit {0}
TablesLead contents number (table ∷ tables) =
    TableLeads contents number table × TablesLead contents (number + 1) tables

-- ---- how many changes are pending

-- so many are listed of tables, of which the first has this number
abbrev pub AreListed : Contents → ℕ → List TableDef → ℕ → Type 0
AreListed contents number [] count = count ≡ 0
AreListed contents number (table ∷ tables) count =
    (rows : List (List ℕ × List ℕ)) × (others : ℕ) × IsListing (stored_pending contents number) rows
    × (count ≡ length rows + others) × AreListed contents (number + 1) tables others

-- how many are pending in the table, if each of them leads
abbrev pub IsTableCount : Contents → ℕ → TableDef → Option ℕ → Type 0
IsTableCount contents number table None = TableLeads contents number table → ⊥
IsTableCount contents number table (Some count) =
    TableLeads contents number table
    × ((rows : List (List ℕ × List ℕ)) × IsListing (stored_pending contents number) rows × (count ≡ length rows))

-- the same of tables
abbrev pub IsCount : Contents → ℕ → List TableDef → Option ℕ → Type 0
IsCount contents number tables None = TablesLead contents number tables → ⊥
IsCount contents number tables (Some count) =
    TablesLead contents number tables × AreListed contents number tables count

-- ---- what is under way

-- each change of a table leads to what stood before what is pending
abbrev pub ChangesLead : View → List ℕ → List Bool → List (List ℕ × Change) → Type 0
ChangesLead view name marks changes =
    AllByRecursion (λ entry. IsNetTo marks entry.1 (middle view name entry.0)) changes

-- the same of a changeset
abbrev pub FlightLeads : View → List TableChanges → Type 0
FlightLeads view changes = AllByRecursion (λ first. ChangesLead view first.name first.marks first.changes) changes

-- ---- the whole

-- all that is held is what its place says, there is no log, and no old value of pending changes
pub record HoldsPlaces (tables : List TableDef) (contents : Contents) : Type 0 where
  pub whole : IsWhole tables contents
  pub log : log_count contents ≡ 0
  pub old : meta_value contents Pending ≡ None

-- moreover the pending changes lead to the rows, and those under way to the rows before these
pub record IsSound (tables : List TableDef) (contents : Contents) (under_way : List TableChanges) : Type 0 where
  pub holds : HoldsPlaces tables contents
  pub lead : TablesLead contents 0 tables
  pub view : View
  pub shows : ShowsRows tables contents view
  pub flies : FlightLeads view under_way

-- how many are pending where contents are so, or that they aren't
abbrev pub IsJudged : List TableDef → Contents → List TableChanges → Option ℕ → Type 0
IsJudged tables contents under_way None = IsSound tables contents under_way → ⊥
IsJudged tables contents under_way (Some count) =
    IsSound tables contents under_way × AreListed contents 0 tables count

-- at which position contents of this replica stand, if at one
abbrev pub IsTold : List TableDef → ℕ → Contents → Option Position → Type 0
IsTold tables id contents None = StandsNowhere tables id contents
IsTold tables id contents (Some position) = StandsAt tables id contents position
