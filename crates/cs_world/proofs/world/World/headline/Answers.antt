use Rattle.std.proofs.Common.{arith}
use Rattle.cs_world.proofs.Left.{stops_have_headline}
use Rattle.cs_world.proofs.Running.{has_headline}
use Rattle.cs_world.proofs.world.World.headline.Goals as goal

pub returns-clause-headline : goal.returns-clause-headline
returns-clause-headline g c =
    rw (← c.self.view_is) (has_headline g.S.RowStore _ c.sound_has_headline.ensures c.self.inside.core c.self.invariant)

pub returns-clause-stops : goal.returns-clause-stops
returns-clause-stops g c =
    rw (← c.self.view_is) (stops_have_headline g.S.RowStore _ c.answers_fit.ensures c.steps_are_sound.ensures c.sound_has_headline.ensures c.one_told_answer.ensures (omega (arith, c.most_entries.ensures)) c.self.inside.core c.self.invariant)
