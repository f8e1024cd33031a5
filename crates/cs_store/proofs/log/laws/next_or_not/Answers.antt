use Rattle.cs_store.proofs.LogLemmas.Decided.{next_or_not}
use Rattle.cs_store.proofs.log.laws.next_or_not.Goals as goal

pub returns : goal.returns
returns c = next_or_not c.defined_or_not.ensures c.can_widen_or_not.ensures
