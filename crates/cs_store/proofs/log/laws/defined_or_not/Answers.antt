use Rattle.cs_store.proofs.LogLemmas.Decided.{defined_or_not}
use Rattle.cs_store.proofs.log.laws.defined_or_not.Goals as goal

pub returns : goal.returns
returns c = defined_or_not
