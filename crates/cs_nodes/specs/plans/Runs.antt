-- What a plan makes of a node (profile of this project).
use Rattle.std.specs.Prelude.{◌≡◌, ◌≢◌, ◌⊎◌, ◌<◌, ◌↔◌, ℕ, IsTrue, List, [], ◌∷◌, length, Result, Ok, Err}
use Rattle.cs_conflict.specs.declared.wish.Wish.{Wish}
use Rattle.cs_pending.specs.EditLists.{asked_of_edit, table_of_edit}
use Rattle.cs_nodes.specs.following.Pulls.{PullsAll}
use Rattle.cs_nodes.specs.following.Pushes.{IsAtRest, PushesOn}
use Rattle.cs_nodes.specs.following.Standing.{Begins}
use Rattle.cs_nodes.specs.declared.following.fault.NodeFault.{NodeFault}
use Rattle.cs_nodes.specs.declared.following.fault.NodeFault.TheVariants as moving
use Rattle.cs_nodes.specs.declared.following.pushed.NodePush.{NodePush}
use Rattle.cs_nodes.specs.declared.following.pushed.NodePush.TheVariants.{Nothing, Behind}
use Rattle.cs_store.specs.declared.log.entry.LogEntry.{LogEntry}
use Rattle.cs_opening.specs.Fresh.{first_position}
use Rattle.cs_pending.specs.Edits.{IsOfStore, edit}
use Rattle.cs_pending.specs.Laws.{empty_view}
use Rattle.cs_pending.specs.View.{View}
use Rattle.cs_pending.specs.declared.fault.EditFault.TheVariants as editing
use Rattle.cs_pending.specs.position.Shows.{ShowsAt}
use Rattle.cs_pending.specs.declared.position.position.Position.{Position}
use Rattle.cs_nodes.specs.following.Edited.{with_pending}
use Rattle.cs_store.specs.Contents.{Contents}
use Rattle.cs_value.specs.declared.catalog.TableDef.{TableDef}
use Rattle.cs_conflict.specs.wish_list.Wished.{IsWished}
use Rattle.cs_nodes.specs.declared.plans.plan.Mark.{Mark}
use Rattle.cs_nodes.specs.declared.plans.plan.Step.{Step}
use Rattle.cs_nodes.specs.declared.plans.plan.Step.TheVariants.{Edit, Pull, Push}
use Rattle.cs_nodes.specs.declared.plans.plan.StepOutcome.{StepOutcome}
use Rattle.cs_nodes.specs.declared.plans.plan.StepOutcome.TheVariants.{Edited, NotEdited, Pulled, Pushed, Failed}
use Rattle.cs_nodes.specs.declared.plans.plan.Stepped.{Stepped}

-- a node: its replica's tables, the entries that its pass knows, where the replica stands, and its rows and pending changes
pub record NodeAt : Type 0 where
  pub tables : List TableDef
  pub known : List LogEntry
  pub position : Position
  pub view : View

-- one of these tables, to which nothing has happened
abbrev pub first_node : List TableDef → ℕ → NodeAt
first_node tables id = record { tables = tables; known = []; position = first_position id; view = empty_view }

-- how a node stands after a call, beside how it stood before
pub record IsMark (old new : NodeAt) (mark : Mark) : Type 0 where
  pub known : mark.known ≡ length new.known
  pub version : mark.version ≡ new.position.version
  pub made : IsTrue mark.made ↔ (old.position.number ≢ new.position.number)

-- it isn't told that a device failed
abbrev pub TellsNoDevice : StepOutcome → Type 0
TellsNoDevice outcome = (outcome ≢ NotEdited editing.Device) × (outcome ≢ Failed moving.Device)

-- `left` is what the store holds then; the row has so many cells
module _ (cells : ℕ) where
  -- a pull by these wishes: so many entries, or why no more
  abbrev pub PullsBy : List Wish → Result ℕ NodeFault → NodeAt → NodeAt → Contents → Type 0
  PullsBy wishes result old new left =
      (unused : List Wish) × PullsAll IsWished old.tables new.known result old.position old.view wishes new.tables new.position left unused

  -- a push by these wishes; that there is nothing to push is told first, and then that entries are known which weren't taken
  pub record PushesBy (wishes : List Wish) (result : Result NodePush NodeFault) (old new : NodeAt) (left : Contents) : Type 0 where
    pub unused : List Wish
    pub pushes : PushesOn IsWished old.tables old.known old.position old.view wishes cells result new.known new.tables new.position left unused
    pub nothing : IsAtRest old.position → result ≡ Ok Nothing
    pub behind : (IsAtRest old.position → ⊥) → old.position.version < length old.known → result ≡ Ok Behind

  -- what a call makes of a node, and what it comes to
  abbrev pub ComesTo : Step → StepOutcome → NodeAt → NodeAt → Contents → Type 0
  ComesTo (Edit asked) Edited old new left =
      (edit old.tables (table_of_edit asked) (asked_of_edit asked) old.view ≡ Ok new.view)
      × (new.position ≡ with_pending old.position new.position.pending) × (new.known ≡ old.known) × (new.tables ≡ old.tables)
  ComesTo (Edit asked) (NotEdited fault) old new left =
      (IsOfStore fault ⊎ (edit old.tables (table_of_edit asked) (asked_of_edit asked) old.view ≡ Err fault)) × (new ≡ old)
  ComesTo (Pull wishes) (Pulled count) old new left = PullsBy wishes (Ok count) old new left
  ComesTo (Pull wishes) (Failed fault) old new left = PullsBy wishes (Err fault) old new left
  ComesTo (Push wishes) (Pushed told) old new left = PushesBy wishes (Ok told) old new left
  ComesTo (Push wishes) (Failed fault) old new left = PushesBy wishes (Err fault) old new left
  ComesTo _ _ old new left = ⊥

  -- one call: what was known begins what is known then, and the store shows the node as it then stands. It is a store in memory, so no
  -- device is told to have failed
  pub record RunsStep (step : Step) (stepped : Stepped) (old new : NodeAt) : Type 0 where
    pub begins : Begins old.known new.known
    pub left : Contents
    pub shows : ShowsAt new.tables left new.position new.view
    pub makes : ComesTo step stepped.outcome old new left
    pub marked : IsMark old new stepped.mark
    pub no_device : TellsNoDevice stepped.outcome

  -- a plan's calls one behind another, with what each came to
  abbrev pub RunsPlan : List Step → List Stepped → NodeAt → NodeAt → Type 0
  RunsPlan [] [] old new = new ≡ old
  RunsPlan (step ∷ steps) (one ∷ more) old new =
      (between : NodeAt) × RunsStep step one old between × RunsPlan steps more between new
  RunsPlan [] (one ∷ more) old new = ⊥
  RunsPlan (step ∷ steps) [] old new = ⊥
