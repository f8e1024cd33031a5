-- The laws of stores that hold the rows of tables.
use Rattle.std.specs.Prelude.{List}
use Rattle.cs_value.specs.declared.catalog.TableDef.{TableDef}
use Rattle.cs_store.specs.log.State.{State, AreSame, IsStateOf}
use Rattle.cs_store.specs.Contents.{Contents}
use Rattle.cs_store.specs.Written.{after_batch}
use Rattle.cs_store.specs.States.{Holds, AreEdits}
use Rattle.cs_store.specs.declared.batch.Batch.{Batch}

-- a store holds one state of the tables at most
abbrev pub HoldsOneState : Type 0
HoldsOneState =
    (tables : List TableDef) (contents : Contents) (some other : State)
    → Holds tables contents some → Holds tables contents other → AreSame some other

-- a commit of the edits that make a state of the tables leaves a store that holds it
abbrev pub EditsLeadToState : Type 0
EditsLeadToState =
    (tables : List TableDef) (batch : Batch) (contents : Contents) (end : State)
    → IsStateOf tables end → AreEdits tables contents batch.rows end
    → Holds tables (after_batch batch contents) end
