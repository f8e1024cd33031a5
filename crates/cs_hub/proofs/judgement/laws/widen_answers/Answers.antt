use Rattle.cs_hub.proofs.JudgementLemmas.Widened as law
use Rattle.cs_hub.proofs.judgement.laws.widen_answers.Goals as goal

pub returns : goal.returns
returns c = record { one = law.one_widen_answer; some = law.widen_has_answer c.can_widen_or_not.ensures }
