use Rattle.cs_meeting.proofs.OneTurn.{one_turn}
use Rattle.cs_meeting.proofs.laws.one_turn.Goals as goal

pub returns : goal.returns
returns c = one_turn c.one_step.ensures c.steps_are_sound.ensures
