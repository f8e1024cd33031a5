use Rattle.cs_exchange.proofs.TakingLemmas.Widened as law
use Rattle.cs_exchange.proofs.taking.laws.one_widened.Goals as goal

pub returns : goal.returns
returns c = law.one_widened c.one_view.ensures.one c.one_contents.ensures.log_rows
