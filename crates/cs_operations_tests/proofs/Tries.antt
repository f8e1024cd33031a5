-- What a closure that always aborts tells of a changeset.
use Rattle.std.specs.Prelude.{List, Result, Ok, Err, IfOk, IfErr}
use Rattle.cs_value.specs.declared.catalog.TableDef.{TableDef}
use Rattle.cs_normal.specs.Normal.{FitsCatalog, IsNormalChangeset, groups_of}
use Rattle.cs_normal.specs.State.{State}
use Rattle.cs_normal.specs.declared.normal.TableChanges.{TableChanges}
use Rattle.cs_store.specs.Contents.{Contents}
use Rattle.cs_conflict.specs.declared.conflict.Conflict.{Conflict}
use Rattle.cs_conflict.specs.declared.conflict.Resolution.{Resolution}
use Rattle.cs_conflict.specs.declared.conflict.Resolution.TheVariants.{Replace, Abort}
use Rattle.cs_apply.specs.Calls.{IsCarriedOut, IsRefused}
use Rattle.cs_apply.specs.Laws.{AlwaysAborts, AbortingIsApplied, AbortingIsRefused}
use Rattle.cs_apply.specs.declared.applying.Applied.{Applied}
use Rattle.cs_apply.specs.declared.fault.ApplyFault.{ApplyFault}
use Rattle.cs_apply.specs.declared.fault.ApplyFault.TheVariants as why
use Rattle.cs_operations_tests.specs.Tried.{IsMade, IsNotMade}

module _ {F : Type 0} (asks : F → Conflict → Resolution → F → Type 0) (tables : List TableDef) (push : List TableChanges) (contents : Contents) (before : State) (f g : F) (aborts : AlwaysAborts asks) (normal : IsNormalChangeset push) (fits : FitsCatalog tables push) where
  pub made : AbortingIsApplied asks → (result : Result Applied ApplyFault) → IfOk result (λ applied. IsCarriedOut asks tables (groups_of push) contents before f applied g) → IfOk result (IsMade tables push contents before)
  made law (Ok applied) carried = law tables push contents before f g applied aborts normal fits carried
  made law (Err fault) carried = tt

  not_made : AbortingIsRefused asks → (fault : ApplyFault) → IsRefused asks tables (groups_of push) before f fault g → IsNotMade tables push before fault
  not_made law why.Memory told = tt
  not_made law why.Device told = tt
  not_made law why.NullKey told = tt
  not_made law (why.Aborted conflict) told = let all = law tables push before f g Abort conflict aborts normal fits told in (all.0, all.2)
  not_made law (why.Misuse conflict) told = let all = law tables push before f g Replace conflict aborts normal fits told in let e = all.1 in cc

  pub refused : AbortingIsRefused asks → (result : Result Applied ApplyFault) → IfErr result (λ fault. IsRefused asks tables (groups_of push) before f fault g) → IfErr result (IsNotMade tables push before)
  refused law (Ok applied) told = tt
  refused law (Err fault) told = not_made law fault told
