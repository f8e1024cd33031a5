use Rattle.cs_hub.proofs.Again.{served_again}
use Rattle.cs_hub.proofs.laws.served_again.Goals as goal

pub returns : goal.returns
returns c = served_again c.longer_log.ensures c.widens_keep_log.ensures.again
