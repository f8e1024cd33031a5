use Rattle.std.proofs.Common.{map, refl}
use Rattle.cs_apply.specs.NormalTasks.{keyed_task}
use Rattle.cs_apply.specs.placement.Places.{task_of}
use Rattle.cs_apply.specs.declared.placement.placed.Placed.{Placed}
use Rattle.cs_apply.proofs.PlacementLemmas.Put.{are_placed_more, placed_all, placed_more, same_made}
use Rattle.cs_apply.proofs.placement.placed.put_changes.Goals as goal

pub loop-key-preserved : goal.loop-key-preserved
loop-key-preserved c =
    let p : Placed = record { number = c.args.number; table = c.args.table; key = c.in-Some.key; change = c.in-Some.change } in
    record {
      tasks = placed_more (keyed_task c.args.number c.args.first.now) c.args.first.now.changes c.loop-key.at (c.in-Some.key.now, c.in-Some.change) c.loop-key.out.items c.push.new.self.items p (map task_of c.args.out.now.items)
          c.in-Some.ensures c.in_ok-push.ensures.items
          (same_made p c.args.number c.args.first.now c.in-Some.key.now c.in-Some.change refl c.requires.name c.requires.marks refl refl)
          c.loop-key.invariant.tasks;
      placed = λ tables at old. are_placed_more tables c.loop-key.out.items c.push.new.self.items p c.in_ok-push.ensures.items at (c.loop-key.invariant.placed tables at old);
    }

pub returns-clause-tasks : goal.returns-clause-tasks
returns-clause-tasks c =
    placed_all (keyed_task c.args.number c.args.first.now) c.args.first.now.changes c.loop-key.at _ (map task_of c.args.out.now.items) c.in_default.ensures c.loop-key.invariant.tasks
