use Rattle.std.proofs.Common.{List, ap, map, refl}
use Rattle.cs_apply.specs.placement.Places.{task_of}
use Rattle.cs_apply.specs.declared.placement.placed.Placed.{Placed}
use Rattle.cs_opening.proofs.MovingLemmas.Batches.{batch_moves, contents_of}
use Rattle.cs_opening.proofs.moving.edits.moving_batch.Goals as goal

pub returns : goal.returns
unfolding contents_of
returns c = λ contents.
    batch_moves c.args.catalog.now c.args.changes.now _ _ _ _ _ _ _ contents
    c.new.ensures c.in_ok-placed.ensures.tasks c.in_ok-pending.ensures (ap (λ (ps : List Placed). map task_of ps) c.as_slice.ensures.value) c.in_ok-push.ensures.items c.new-meta.ensures.items refl
