-- With lawful answers the diamond closes.
use Rattle.std.specs.Prelude.{List, Result, Ok, Err, IfOk}
use Rattle.cs_value.specs.Catalog.{AreTables}
use Rattle.cs_value.specs.declared.catalog.TableDef.{TableDef}
use Rattle.cs_normal.specs.Normal.{FitsCatalog, IsNormalChangeset, groups_of}
use Rattle.cs_normal.specs.State.{State, IsApplied}
use Rattle.cs_normal.specs.declared.normal.TableChanges.{TableChanges}
use Rattle.cs_store.specs.Contents.{Contents}
use Rattle.cs_conflict.specs.declared.conflict.Conflict.{Conflict}
use Rattle.cs_conflict.specs.declared.conflict.Resolution.{Resolution}
use Rattle.cs_apply.specs.Calls.{IsCarriedOut}
use Rattle.cs_store.specs.States.{Holds}
use Rattle.cs_apply.specs.declared.applying.Applied.{Applied}
use Rattle.cs_apply.specs.declared.fault.ApplyFault.{ApplyFault}
use Rattle.cs_rebaser.specs.DiamondOfTables.{AnswersLawfully, DiamondOfTables, LawfulAreGiven}
use Rattle.cs_operations_tests.specs.Closes.{Closes}

module _ {F : Type 0} (asks : F → Conflict → Resolution → F → Type 0) (tables : List TableDef) (local remote : List TableChanges) (contents : Contents) (f g : F) (are : AreTables tables) (local_normal : IsNormalChangeset local) (remote_normal : IsNormalChangeset remote) (fits : FitsCatalog tables remote) (given : LawfulAreGiven asks) (diamond : DiamondOfTables asks) (answers : (base mine : State) → IsApplied tables local base mine → AnswersLawfully asks tables local mine f) where
  pub closes : (result : Result Applied ApplyFault) → ((before : State) → Holds tables contents before → IfOk result (λ applied. IsCarriedOut asks tables (groups_of remote) contents before f applied g))
      → IfOk result (Closes tables local remote contents)
  closes (Err fault) carried = tt
  closes (Ok applied) carried = λ base mine theirs state holds left also.
      let done = carried mine holds in
      let lawful = given tables local remote mine done.1 done.0 f g remote_normal fits (answers base mine left) done.2 in
      let closed = diamond tables local remote base mine theirs done.1 done.0 f g are local_normal remote_normal state left also done.2 lawful in
      (done.0, done.1, closed.0, done.5, done.4, closed.2)
