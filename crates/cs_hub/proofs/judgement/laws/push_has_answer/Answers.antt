use Rattle.cs_hub.proofs.JudgementLemmas.Existence.{push_has_answer}
use Rattle.cs_hub.proofs.judgement.laws.push_has_answer.Goals as goal

pub returns : goal.returns
returns c = push_has_answer c.defined_or_not.ensures c.defined_or_conflict.ensures c.one_body.ensures c.catalogs_are_tables.ensures
