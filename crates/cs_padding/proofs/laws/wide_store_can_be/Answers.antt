use Rattle.cs_padding.proofs.WideStore as law
use Rattle.cs_padding.proofs.laws.wide_store_can_be.Goals as goal

pub returns : goal.returns
returns c = law.wide_store_can_be c.sound_widens.ensures c.one_view.ensures.one c.widened_is_state.ensures
