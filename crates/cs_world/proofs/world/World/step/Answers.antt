use Rattle.std.proofs.Common.{arith}
use Rattle.cs_world.proofs.Running.{runs_one, still_stands}
use Rattle.cs_world.proofs.world.World.step.Goals as goal

pub invariant_of-self : goal.invariant_of-self
invariant_of-self g c =
    still_stands g.S.RowStore _ c.steps_are_sound.ensures (omega (arith, c.most_entries.ensures)) _ _ _ _ c.step.ensures.moves c.self.invariant

pub returns-clause-ran : goal.returns-clause-ran
returns-clause-ran g c =
    rw (← c.self.view_is) (runs_one g.S.RowStore _ c.steps_are_sound.ensures (omega (arith, c.most_entries.ensures)) _ _ _ _ c.step.ensures.moves)

pub returns-clause-counts : goal.returns-clause-counts
returns-clause-counts g c = rw (← c.self.view_is) c.step.ensures.moves.counts

pub returns-clause-asks : goal.returns-clause-asks
returns-clause-asks g c = rw (← c.self.view_is) c.step.ensures.asks
