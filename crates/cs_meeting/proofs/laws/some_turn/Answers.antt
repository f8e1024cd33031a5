use Rattle.cs_meeting.proofs.SomeTurn.{some_turn}
use Rattle.cs_meeting.proofs.laws.some_turn.Goals as goal

pub returns : goal.returns
returns c = some_turn c.ask_has_step.ensures.catch c.resend_has_step.ensures c.push_has_step.ensures c.deliver_has_step.ensures c.steps_are_sound.ensures
