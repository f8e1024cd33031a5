use Rattle.cs_wire.proofs.Fronts.{front_of_request}
use Rattle.cs_wire.proofs.laws.front_of_request.Goals as goal

pub returns : goal.returns
returns c = front_of_request c.one_request.ensures c.asks_something.ensures
