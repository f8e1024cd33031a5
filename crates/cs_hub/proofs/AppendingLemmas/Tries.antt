-- What a closure that always aborts tells of a changeset.
use Rattle.std.proofs.Common.{◌≡◌, true, List, Ok, Err, ap, subst, ◌∙◌}
use Rattle.cs_value.specs.declared.catalog.TableDef.{TableDef}
use Rattle.cs_normal.specs.Normal.{FitsCatalog, IsNormalChangeset, groups_of}
use Rattle.cs_normal.specs.State.{State}
use Rattle.cs_normal.specs.declared.normal.TableChanges.{TableChanges}
use Rattle.cs_store.specs.Contents.{Contents}
use Rattle.cs_conflict.specs.declared.conflict.Conflict.{Conflict}
use Rattle.cs_conflict.specs.declared.conflict.Resolution.{Resolution}
use Rattle.cs_conflict.specs.declared.conflict.Resolution.TheVariants.{Replace, Abort}
use Rattle.cs_store.specs.States.{Holds}
use Rattle.cs_store.specs.declared.store.RowStore.{Ghosts}
use Rattle.cs_apply.specs.Calls.{IsCarriedOut, IsRefused, IsStoppedAt, LeavesStore}
use Rattle.cs_apply.specs.Laws.{AlwaysAborts, AbortingIsApplied, AbortingIsRefused}
use Rattle.cs_apply.specs.NormalTasks.{are_keyed, of_one, tasks_are}
use Rattle.cs_tasks.specs.Tasks.{all_keyed, tasks}
use Rattle.cs_apply.specs.declared.applying.Applied.{Applied}
use Rattle.cs_apply.specs.declared.fault.ApplyFault.{ApplyFault}
use Rattle.cs_apply.specs.declared.fault.ApplyFault.TheVariants as apply
use Rattle.cs_pending.specs.Calls.{ReadsStore}
use Rattle.cs_pending.specs.Storing.{err_is}
use Rattle.cs_hub.specs.appending.Steps.{IsTried, IsNotTried}
use Rattle.cs_hub.specs.declared.appending.fault.AppendFault.{AppendFault}
use Rattle.cs_hub.specs.declared.appending.fault.AppendFault.TheVariants.{Conflict as OnConflict, Device}
use Rattle.cs_hub.proofs.AppendingLemmas.First.{stops_aborts}

-- each change has its key
pub keyed : (tables : List TableDef) (changes : List TableChanges) → IsNormalChangeset changes → FitsCatalog tables changes → all_keyed (tasks tables (groups_of changes)) ≡ true
keyed tables changes normal fits =
    ap all_keyed (tasks_are tables changes (of_one tables changes fits) normal) ∙ are_keyed tables changes normal

module _ {F : Type 0} (asks : F → Conflict → Resolution → F → Type 0) (tables : List TableDef) (changes : List TableChanges) (contents : Contents) (before : State) (f g : F) (aborts : AlwaysAborts asks) (normal : IsNormalChangeset changes) (fits : FitsCatalog tables changes) where
  pub tried : AbortingIsApplied asks → (applied : Applied) → IsCarriedOut asks tables (groups_of changes) contents before f applied g → IsTried tables changes contents before applied.edits
  tried law applied carried = law tables changes contents before f g applied aborts normal fits carried

  pub aborted : AbortingIsRefused asks → (fault : ApplyFault) (conflict : Conflict) → fault ≡ apply.Aborted conflict → IsRefused asks tables (groups_of changes) before f fault g → IsNotTried tables changes before (OnConflict conflict)
  aborted law fault conflict is refused =
      let stopped : IsStoppedAt asks tables (groups_of changes) before f Abort conflict g = subst (λ (x : ApplyFault). IsRefused asks tables (groups_of changes) before f x g) is refused in
      let all = law tables changes before f g Abort conflict aborts normal fits stopped in
      (all.0, (stopped.0, stops_aborts asks aborts before _ f g stopped.0 conflict stopped.1))

  pub misused : AbortingIsRefused asks → (fault : ApplyFault) (conflict : Conflict) → fault ≡ apply.Misuse conflict → IsRefused asks tables (groups_of changes) before f fault g → IsNotTried tables changes before (OnConflict conflict)
  misused law fault conflict is refused =
      let stopped : IsStoppedAt asks tables (groups_of changes) before f Replace conflict g = subst (λ (x : ApplyFault). IsRefused asks tables (groups_of changes) before f x g) is refused in
      absurd (let all = law tables changes before f g Replace conflict aborts normal fits stopped in let e = all.1 in cc)

-- ---- the store was only read

module _ {S : Type 0} (g : Ghosts S) (tables : List TableDef) (old new : S)
    (right : g.honest new → (before : State) → Holds tables (g.contents old) before → g.misreads new ≡ g.misreads old) where
  -- rows of the tables can be read
  abbrev CanBeRead : Type 0
  CanBeRead = (before : State) × Holds tables (g.contents old) before

  pub went_on : {T U : Type 0} (t : T) (u : U) → LeavesStore g old new (Ok t) → ReadsStore g Device CanBeRead old new (Ok u)
  went_on t u left = record {
    was_honest = left.was_honest;
    same = left.same;
    crash = left.crash;
    kept = left.kept;
    later = left.later;
    cause = λ e. absurd cc;
    as_read = λ h r. right h r.0 r.1;
  }

  pub gave_up : {T U : Type 0} (fault : ApplyFault) (told : AppendFault) → (told ≡ Device → fault ≡ apply.Device) → LeavesStore g {T = T} old new (Err fault)
      → ReadsStore g {T = U} Device CanBeRead old new (Err told)
  gave_up fault told is left = record {
    was_honest = left.was_honest;
    same = left.same;
    crash = left.crash;
    kept = tt;
    later = left.later;
    cause = λ e. left.cause (ap (λ x. Err x) (is (err_is told Device e)));
    as_read = λ h r. right h r.0 r.1;
  }
