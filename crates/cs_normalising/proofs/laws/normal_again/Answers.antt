use Rattle.cs_normalising.proofs.NormalAgain as law
use Rattle.cs_normalising.proofs.laws.normal_again.Goals as goal

pub returns : goal.returns
returns c = law.normal_again
