use Rattle.cs_world.proofs.Left.{opens_as_left}
use Rattle.cs_world.proofs.laws.opens_as_left.Goals as goal

pub returns : goal.returns
returns c = opens_as_left (record { one = c.store_openings.ensures.one; some = c.openings.ensures.some })
