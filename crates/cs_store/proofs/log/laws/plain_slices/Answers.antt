use Rattle.cs_store.proofs.LogLemmas.States.{plain_slices}
use Rattle.cs_store.proofs.log.laws.plain_slices.Goals as goal

pub returns : goal.returns
returns c = plain_slices
