use Rattle.cs_hub.proofs.JudgementLemmas.Once.{one_answer}
use Rattle.cs_hub.proofs.judgement.laws.one_answer.Goals as goal

pub returns : goal.returns
returns c = one_answer c.one_first_conflict.ensures
