use Rattle.cs_wire.proofs.Asking.{asks_something}
use Rattle.cs_wire.proofs.laws.asks_something.Goals as goal

pub returns : goal.returns
returns c = asks_something
