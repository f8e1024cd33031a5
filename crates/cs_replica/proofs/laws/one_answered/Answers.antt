use Rattle.cs_replica.proofs.OneAnswer as law
use Rattle.cs_replica.proofs.laws.one_answered.Goals as goal

pub returns : goal.returns
returns g c = law.one_answered c.one_contents.ensures.contents c.one_view.ensures.one g.P.Picker.picks c.one_list.ensures c.one_told.ensures
