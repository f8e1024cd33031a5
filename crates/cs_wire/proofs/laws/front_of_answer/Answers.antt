use Rattle.cs_wire.proofs.Fronts.{front_of_answer}
use Rattle.cs_wire.proofs.laws.front_of_answer.Goals as goal

pub returns : goal.returns
returns c = front_of_answer c.one_told_answer.ensures c.tells_something.ensures
