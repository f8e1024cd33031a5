use Rattle.cs_hub.proofs.Again.{stale_behind_another}
use Rattle.cs_hub.proofs.laws.stale_behind_another.Goals as goal

pub returns : goal.returns
returns c = stale_behind_another c.longer_log.ensures
