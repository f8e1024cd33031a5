use Rattle.cs_rebaser.proofs.Found as law
use Rattle.cs_rebaser.proofs.laws.each_once_or_not.Goals as goal

pub returns : goal.returns
returns c = law.each_once_or_not
