use Rattle.cs_normalising.proofs.NormalAgain as law
use Rattle.cs_normalising.proofs.laws.normal_is_its_form.Goals as goal

pub returns : goal.returns
returns c = law.normal_is_its_form
