use Rattle.cs_rebaser.proofs.Found as law
use Rattle.cs_rebaser.proofs.laws.shapes_or_wrong.Goals as goal

pub returns : goal.returns
returns c = law.shapes_or_wrong
