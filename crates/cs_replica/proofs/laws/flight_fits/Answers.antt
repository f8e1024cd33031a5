use Rattle.cs_replica.proofs.Stood.{flight_fits}
use Rattle.cs_replica.proofs.laws.flight_fits.Goals as goal

pub returns : goal.returns
returns c = flight_fits c.net_is_applied.ensures
