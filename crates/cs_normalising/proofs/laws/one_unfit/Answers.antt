use Rattle.cs_normalising.proofs.OneUnfit as law
use Rattle.cs_normalising.proofs.laws.one_unfit.Goals as goal

pub returns : goal.returns
returns c = law.one_unfit
