use Rattle.cs_wire.proofs.Walked.{stand_next}
use Rattle.cs_wire.proofs.entries.check_entries.Goals as goal

pub loop-preserved : goal.loop-preserved
loop-preserved c =
    let kept = c.loop.invariant in
    stand_next _ kept.0 _ _ _ _ kept.1 kept.2 c.in_ok-more.ensures
