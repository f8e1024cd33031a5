use Rattle.std.proofs.Common.{◌≡◌, ◌++◌, ◌-◌, List, length, map, take, Some}
use Rattle.std.specs.Prelude.{slice_get}
use Rattle.cs_value.specs.declared.catalog.TableDef.{TableDef}
use Rattle.cs_apply.specs.NormalTasks.{keyed_task}
use Rattle.cs_apply.specs.placement.Places.{ArePlaced, task_of}
use Rattle.cs_apply.proofs.placement.placed.put_changes.Given as goal

abbrev pub invariant-loop-key : goal.invariant-loop-key
invariant-loop-key l = record {
  tasks : map task_of l.out.items ≡ map task_of l.fn.out.items ++ map (keyed_task l.fn.number l.fn.first) (take l.at l.changes);
  placed : (tables : List TableDef) → slice_get tables l.fn.number ≡ Some l.fn.table → ArePlaced tables l.fn.out.items → ArePlaced tables l.out.items;
}

abbrev pub decreases-loop-key : goal.decreases-loop-key
decreases-loop-key l = length l.changes - l.at
