use Rattle.cs_wire.proofs.Log.{told_are_read}
use Rattle.cs_wire.proofs.laws.told_are_read.Goals as goal

pub returns : goal.returns
returns c = told_are_read
