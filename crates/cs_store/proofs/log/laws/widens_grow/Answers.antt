use Rattle.cs_store.proofs.LogLemmas.Widens.{widens_grow}
use Rattle.cs_store.proofs.log.laws.widens_grow.Goals as goal

pub returns : goal.returns
returns c = widens_grow
