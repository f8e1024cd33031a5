use Rattle.cs_store.proofs.LogLemmas.States.{slices}
use Rattle.cs_store.proofs.log.laws.slices.Goals as goal

pub returns : goal.returns
returns c = slices
