use Rattle.cs_replica.proofs.AnswerSome as law
use Rattle.cs_replica.proofs.laws.answer_has_result.Goals as goal

pub returns : goal.returns
returns g c = law.answer_has_result c.one_contents.ensures.next g.P.Picker.picks g.P.Picker.is_ready c.list_has_result.ensures c.told_has_result.ensures
