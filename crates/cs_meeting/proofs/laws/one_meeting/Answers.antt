use Rattle.cs_meeting.proofs.OneMeeting.{one_meeting}
use Rattle.cs_meeting.proofs.laws.one_meeting.Goals as goal

pub returns : goal.returns
returns c = one_meeting c.one_turn.ensures c.turn_is_sound.ensures
