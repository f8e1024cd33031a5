use Rattle.cs_pending.proofs.PositionLemmas.OnePosition.{one_position}
use Rattle.cs_pending.proofs.position.laws.one_position.Goals as goal

pub returns : goal.returns
returns c = one_position c.one_view.ensures.one c.one_body.ensures
