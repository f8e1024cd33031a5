use Rattle.cs_padding.proofs.Sound.{shows_widens}
use Rattle.cs_padding.proofs.laws.shows_widens.Goals as goal

pub returns : goal.returns
returns c = shows_widens c.sound_widens.ensures c.commits.ensures.pending c.states.ensures.edited c.widened_is_state.ensures
