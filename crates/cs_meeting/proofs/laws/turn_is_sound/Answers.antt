use Rattle.cs_meeting.proofs.OneTurn.{turn_is_sound}
use Rattle.cs_meeting.proofs.laws.turn_is_sound.Goals as goal

pub returns : goal.returns
returns c = turn_is_sound c.steps_are_sound.ensures
