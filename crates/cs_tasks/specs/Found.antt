-- What is found of the changes that are applied.
use Rattle.std.specs.Prelude.{◌≡◌, ℕ, Bool, true, false, List, map}
use Rattle.cs_order.specs.Order.{Keys}
use Rattle.cs_store.specs.States.{place_bytes}
use Rattle.cs_tasks.specs.Tasks.{Task, all_keyed}
use Rattle.cs_tasks.specs.declared.fault.TasksFault.{TasksFault}
use Rattle.cs_tasks.specs.declared.fault.TasksFault.TheVariants.{Memory, NullKey}
use Rattle.cs_tasks.specs.declared.tasks.Tasks.{Tasks}
use Rattle.cs_tasks.specs.declared.tasks.TasksBuilder.{TasksBuilder}

-- these are the numbers of the changes' tables and the changes' places, and each change has its key
pub record AreTasks (tables_found : List ℕ) (places_found : Keys) (all : List Task) : Type 0 where
  pub tables : tables_found ≡ map (λ t. t.table) all
  pub places : places_found ≡ map (λ t. place_bytes t.table t.key) all
  pub keyed : all_keyed all ≡ true

-- these changes were found
abbrev pub AreFound : Tasks → List Task → Type 0
AreFound found all = (found.changes ≡ map (λ t. t.change) all) × AreTasks found.places.0 found.places.1 all

-- this was gathered of the changes so far
abbrev pub AreGathered : TasksBuilder → List Task → Type 0
AreGathered found all = AreTasks found.tables.items found.places all

-- want of memory, or a change without its key
abbrev pub TellsNullKey : TasksFault → Bool → Type 0
TellsNullKey Memory keyed = Unit {0}
TellsNullKey NullKey keyed = keyed ≡ false
