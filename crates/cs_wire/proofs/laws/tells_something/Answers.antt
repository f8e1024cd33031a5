use Rattle.cs_wire.proofs.Telling.{tells_something}
use Rattle.cs_wire.proofs.laws.tells_something.Goals as goal

pub returns : goal.returns
returns c = tells_something
