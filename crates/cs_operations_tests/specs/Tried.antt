-- What comes of a normal changeset that is tried.
use Rattle.std.specs.Prelude.{List}
use Rattle.cs_value.specs.declared.catalog.TableDef.{TableDef}
use Rattle.cs_normal.specs.State.{State, IsApplied, IsDefinedOn}
use Rattle.cs_normal.specs.declared.normal.TableChanges.{TableChanges}
use Rattle.cs_store.specs.Contents.{Contents}
use Rattle.cs_apply.specs.Shown.{IsConflictIn}
use Rattle.cs_store.specs.States.{AreEdits}
use Rattle.cs_apply.specs.declared.applying.Applied.{Applied}
use Rattle.cs_apply.specs.declared.fault.ApplyFault.{ApplyFault}
use Rattle.cs_apply.specs.declared.fault.ApplyFault.TheVariants.{Aborted, Misuse}

-- it is defined, and the edits lead to what it leaves
abbrev pub IsMade : List TableDef → List TableChanges → Contents → State → Applied → Type 0
IsMade tables push contents before applied =
    (after : State) × IsApplied tables push before after × AreEdits tables contents applied.edits after

-- it isn't defined, and one of its changes has this conflict; other faults say nothing of it
abbrev pub IsNotMade : List TableDef → List TableChanges → State → ApplyFault → Type 0
IsNotMade tables push before (Aborted conflict) =
    (IsDefinedOn tables push before → ⊥) × IsConflictIn tables push before conflict
IsNotMade tables push before (Misuse conflict) = ⊥
IsNotMade tables push before fault = Unit {0}
