use Rattle.cs_hub.proofs.AppendingLemmas.First.{one_first_conflict}
use Rattle.cs_hub.proofs.appending.laws.one_first_conflict.Goals as goal

pub returns : goal.returns
returns c = one_first_conflict
