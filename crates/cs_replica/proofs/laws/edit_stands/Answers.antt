use Rattle.cs_replica.proofs.Stood.{edit_stands}
use Rattle.cs_replica.proofs.laws.edit_stands.Goals as goal

pub returns : goal.returns
returns c = edit_stands c.edit_keeps_before.ensures
