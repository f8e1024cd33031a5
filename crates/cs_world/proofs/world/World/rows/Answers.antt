use Rattle.cs_world.proofs.Running.{stands_as_read}
use Rattle.cs_world.proofs.world.World.rows.Goals as goal

pub invariant_of-self : goal.invariant_of-self
invariant_of-self g c = stands_as_read g.S.RowStore _ _ _ c.rows.ensures.reads c.rows.ensures.left c.self.invariant
