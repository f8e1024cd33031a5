use Rattle.cs_exchange.proofs.TakingLemmas.OneTaking as law
use Rattle.cs_exchange.proofs.taking.laws.one_clash.Goals as goal

pub returns : goal.returns
returns c = law.one_clash
