-- Two replicas that are the same (profile of this project).
use Rattle.std.specs.Prelude.{◌≡◌, ℕ, List, Contains}
use Rattle.cs_normal.specs.State.{AreSame}
use Rattle.cs_pending.specs.View.{View}
use Rattle.cs_pending.specs.position.Shows.{ShowsAt}
use Rattle.cs_store.specs.Contents.{Contents}
use Rattle.cs_value.specs.declared.catalog.TableDef.{TableDef}
use Rattle.cs_replica.specs.Step.{Member}

-- the same rows, and at each place of the tables the same pending change or none
pub record IsSameView (tables : List TableDef) (view other : View) : Type 0 where
  pub rows : AreSame view.tables other.tables
  pub pending : (table : TableDef) (key : List ℕ) → Contains tables table → other.pending table.name key ≡ view.pending table.name key

-- they have the same tables, stand at one place, and have the same rows and pending changes
pub record IsSameMember (member other : Member) : Type 0 where
  pub tables : other.tables ≡ member.tables
  pub position : other.position ≡ member.position
  pub view : IsSameView member.tables member.view other.view

-- some store shows it
pub record IsShown (member : Member) : Type 0 where
  pub contents : Contents
  pub shows : ShowsAt member.tables contents member.position member.view
