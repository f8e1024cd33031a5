-- What the code holds on its way: no definition that a public clause cites.
use Rattle.std.specs.Prelude.{◌≡◌, ℕ, pos, List, Option, Some, IsSome}
use Rattle.cs_value.specs.declared.catalog.TableDef.{TableDef}
use Rattle.cs_change.specs.Spelling.{change_spelling}
use Rattle.cs_normal.specs.declared.normal.TableChanges.{TableChanges}
use Rattle.cs_tasks.specs.Tasks.{Task}
use Rattle.cs_store.specs.Contents.{Contents, StorePlace, meta_value}
use Rattle.cs_store.specs.Written.{after_batch, store_place}
use Rattle.cs_store.specs.declared.batch.Batch.{Batch}
use Rattle.cs_store.specs.edits.Edits.{BodyEdit}
use Rattle.cs_store.specs.declared.names.MetaName.TheVariants.{Id, Pending}
use Rattle.cs_pending.specs.declared.position.position.Position.{Position}
use Rattle.cs_opening.specs.Opens.{StandsAt}
use Rattle.cs_opening.specs.Kept.{IsPendingValue}
use Rattle.cs_opening.specs.moving.Moved.{KeepsValue, moved}

-- where an edit is, and what it leaves there
abbrev pub edit_parts : BodyEdit → StorePlace × Option (List ℕ)
edit_parts edit = (store_place edit, edit.body)

abbrev pub task_parts : Task → StorePlace × Option (List ℕ)
task_parts task = ((pos task.table, task.key), Some (change_spelling task.change))

-- contents have an id, and these changes as their value
pub record IsKeptValue (tables : List TableDef) (contents : Contents) (changes : List TableChanges) : Type 0 where
  pub id : IsSome (meta_value contents Id)
  pub bytes : List ℕ
  pub there : meta_value contents Pending ≡ Some bytes
  pub value : IsPendingValue tables bytes changes

-- the batch moves a value, and what is then held shows the replica with this id at the position
pub record IsPlan (tables : List TableDef) (id : ℕ) (old : Contents) (position : Position) (batch : Batch) : Type 0 where
  pub changes : List TableChanges
  pub keeps : KeepsValue tables old changes
  pub moves : after_batch batch old ≡ moved tables changes old
  pub stands : StandsAt tables id (moved tables changes old) position
