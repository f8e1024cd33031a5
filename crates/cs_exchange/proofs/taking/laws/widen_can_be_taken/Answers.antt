use Rattle.cs_exchange.proofs.TakingLemmas.WideStored as law
use Rattle.cs_exchange.proofs.taking.laws.widen_can_be_taken.Goals as goal

pub returns : goal.returns
returns c = law.widen_can_be_taken c.taker_takes.ensures c.wide_store_can_be.ensures
