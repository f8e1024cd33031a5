-- The ends of nodes that ran their plans (profile of this project).
use Rattle.std.specs.Prelude.{◌≡◌, ℕ, List, Some, length, slice_get}
use Rattle.cs_map_store.specs.Slots.{InMemory, held_by}
use Rattle.cs_nodes.specs.Nodes.{IsOfOpening, NodeState}
use Rattle.cs_pending.specs.View.{View}
use Rattle.cs_nodes.specs.following.Holding.{Shows}
use Rattle.cs_spine.specs.Known.{SpineCells}
use Rattle.cs_value.specs.declared.catalog.TableDef.{TableDef}
use Rattle.cs_nodes.specs.declared.plans.ending.NodeEnd.{NodeEnd}
use Rattle.cs_nodes.specs.declared.plans.plan.Step.{Step}
use Rattle.cs_nodes.specs.plans.Runs.{NodeAt, RunsPlan, first_node}

-- the node, where its store shows these rows and pending changes
abbrev pub node_at : NodeState InMemory → View → NodeAt
node_at node view = record { tables = node.replica.catalog; known = node.pass.known; position = node.replica.position; view = view }

-- a node keeps its row of cells, and its tables go on from the opening ones as the entries do. What it showed has made this step, where
-- nothing in its store was misread so far. Nor is it then
pub record TurnsNode (step : ℕ → NodeAt → NodeAt → Type 0) (old new : NodeState InMemory) : Type 0 where
  pub catalog : (opening : List TableDef) → IsOfOpening opening old → IsOfOpening opening new
  pub spine : new.pass.spine ≡ old.pass.spine
  pub turned : old.replica.store.misreads ≡ 0 → (view : View) → Shows held_by old.replica view
      → (next : View) × Shows held_by new.replica next × (new.replica.store.misreads ≡ 0)
      × step old.pass.spine.cap (node_at old view) (node_at new next)

module _ (tables : List TableDef) (cells : SpineCells) where
  -- the end of a new node with this id that ran the plan: what its store shows is what the plan's calls made of it. Its tables are what
  -- the entries up to its version make of those that it began with
  pub record IsEnd (id : ℕ) (plan : List Step) (end : NodeEnd) : Type 0 where
    pub catalog : IsOfOpening tables end.node
    pub spine : end.node.pass.spine ≡ cells
    pub view : View
    pub shows : Shows held_by end.node.replica view
    pub runs : RunsPlan cells.cap plan end.steps.items (first_node tables id) (node_at end.node view)
    pub counted : length end.steps.items ≡ length plan

  -- an end for each plan, in their order; the id of a node is the place of its plan
  pub record AreEnds (plans : List (List Step)) (ends : List NodeEnd) : Type 0 where
    pub counted : length ends ≡ length plans
    pub each : (i : ℕ) (plan : List Step) (end : NodeEnd) → slice_get plans i ≡ Some plan → slice_get ends i ≡ Some end → IsEnd i plan end
