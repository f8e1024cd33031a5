use Rattle.cs_hub.proofs.JudgementLemmas.Widened as law
use Rattle.cs_hub.proofs.judgement.laws.widens_keep_log.Goals as goal

pub returns : goal.returns
returns c = record { log = law.widens_keep_log c.appended_is_log.ensures; again = law.widened_again }
