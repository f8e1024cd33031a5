-- A node: a replica, and what its thread knows of a row of cells (profile of this project).
use Rattle.std.specs.Prelude.{◌≡◌, ◌≤◌, List, length}
use Rattle.cs_value.specs.declared.catalog.TableDef.{TableDef}
use Rattle.cs_store.specs.log.Log.{catalog_at}
use Rattle.cs_store.specs.declared.store.RowStore.{Ghosts}
use Rattle.cs_replica.specs.Holding.{Holding}
use Rattle.cs_spine.specs.Known.{Known}
use Rattle.cs_nodes.specs.following.Pushes.{IsAtRest}
use Rattle.cs_nodes.specs.following.Standing.{StandsWhereHonest}

-- the replica, and the pass
pub record NodeState (S : Type 0) : Type 0 where
  pub replica : Holding S
  pub pass : Known

-- the replica has taken no more than the pass knows, and where its store is honest it stands on that
pub record IsNode {S : Type 0} (g : Ghosts S) (node : NodeState S) : Type 0 where
  pub within : node.replica.position.version ≤ length node.pass.known
  pub stands : StandsWhereHonest g node.pass.known node.replica

-- the replica has taken no more than the pass knows, and its tables are what the entries up to its version make of the opening ones
pub record IsOfOpening {S : Type 0} (opening : List TableDef) (node : NodeState S) : Type 0 where
  pub within : node.replica.position.version ≤ length node.pass.known
  pub catalog : node.replica.catalog ≡ catalog_at opening node.pass.known node.replica.position.version

-- both are at one version, with nothing pending and nothing under way
abbrev pub AreMet : {S T : Type 0} → NodeState S → NodeState T → Type 0
AreMet one other =
    (one.replica.position.version ≡ other.replica.position.version) × IsAtRest one.replica.position × IsAtRest other.replica.position
