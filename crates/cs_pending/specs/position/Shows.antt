-- What a store holds of a replica at a position.
use Rattle.std.specs.Prelude.{◌≡◌, ◌≤◌, ℕ, List, [], length, Option, Some, None}
use Rattle.std.specs.FinMap.{get, len}
use Rattle.cs_value.specs.declared.catalog.TableDef.{TableDef}
use Rattle.cs_normal.specs.Normal.{FitsCatalog, IsNormalChangeset, change_of, normal_spelling}
use Rattle.cs_normal.specs.State.{State}
use Rattle.cs_normal.specs.declared.normal.TableChanges.{TableChanges}
use Rattle.cs_store.specs.declared.log.entry.TheConstants.{MAX_CHANGESET}
use Rattle.cs_store.specs.Contents.{Contents, StorePlace, log_count, meta_value}
use Rattle.cs_store.specs.Whole.{IsName}
use Rattle.cs_store.specs.declared.names.MetaName.{MetaName}
use Rattle.cs_pending.specs.Shows.{IsElsewhere, IsSoundOf, ShowsRows}
use Rattle.cs_pending.specs.View.{Changed, View, before, middle}
use Rattle.cs_pending.specs.position.Values.{value_of}
use Rattle.cs_pending.specs.declared.position.position.Position.{Position}
use Rattle.cs_pending.specs.declared.position.position.TheConstants.{LAST_NUMBER}

-- the changes under way; none where no push is
abbrev pub flown : Option (List TableChanges) → List TableChanges
flown None = []
flown (Some changes) = changes

-- the change or none at each place
abbrev pub changes_at : List TableChanges → Changed
changes_at changes = λ name key. change_of name key changes

-- the log's rows at the version: what is left where what is pending is taken back from the rows, and then what is under way
abbrev pub base : Option (List TableChanges) → View → State
base flight view = before (changes_at (flown flight)) (middle view)

-- the changes under way are a normal changeset of the tables that a push can carry. They are the net changes from the log's
-- rows to those before what is pending
pub record IsUnderWay (tables : List TableDef) (flight : Option (List TableChanges)) (view : View) : Type 0 where
  pub fits : FitsCatalog tables (flown flight)
  pub normal : IsNormalChangeset (flown flight)
  pub size : length (normal_spelling (flown flight)) ≤ MAX_CHANGESET
  pub sound : IsSoundOf tables (changes_at (flown flight)) (middle view)

-- the store holds no row and no pending change elsewhere, no log, and no value under a name that is none of ours
pub record HoldsNoMore (tables : List TableDef) (contents : Contents) : Type 0 where
  pub rows : (place : StorePlace) → IsElsewhere tables place → get contents.rows place ≡ None
  pub pending : (place : StorePlace) → IsElsewhere tables place → get contents.pending place ≡ None
  pub log : log_count contents ≡ 0
  pub names : (name value : List ℕ) → get contents.meta name ≡ Some value → IsName name

-- the store is that of a replica at this position, with these rows and these pending changes, and nothing else
pub record ShowsAt (tables : List TableDef) (contents : Contents) (position : Position) (view : View) : Type 0 where
  pub rows : ShowsRows tables contents view
  pub values : (name : MetaName) → meta_value contents name ≡ value_of tables position name
  pub alone : HoldsNoMore tables contents
  pub under_way : IsUnderWay tables position.flight view
  pub counted : position.pending ≡ len contents.pending
  pub numbered : position.number ≤ LAST_NUMBER

-- the store is that of a replica at this position
abbrev pub ShowsSomeAt : List TableDef → Position → Contents → Type 0
ShowsSomeAt tables position contents = (view : View) × ShowsAt tables contents position view
