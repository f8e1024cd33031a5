use Rattle.cs_normalising.proofs.OneNormalForm as law
use Rattle.cs_normalising.proofs.laws.one_normal_form.Goals as goal

pub returns : goal.returns
returns c = law.one_normal_form c.one_normal.ensures
