use Rattle.cs_padding.proofs.Sound.{sound_widens}
use Rattle.cs_padding.proofs.laws.sound_widens.Goals as goal

pub returns : goal.returns
returns c = sound_widens c.one_key_stands.ensures c.net_widens.ensures c.widened_fits.ensures c.widened_is_state.ensures
