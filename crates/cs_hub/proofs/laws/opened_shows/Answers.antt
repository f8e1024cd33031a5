use Rattle.cs_hub.proofs.Opened.{opened_shows}
use Rattle.cs_hub.proofs.laws.opened_shows.Goals as goal

pub returns : goal.returns
returns c = opened_shows c.hub_is_opened.ensures
