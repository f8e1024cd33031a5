use Rattle.cs_conflict.proofs.Picking as law
use Rattle.cs_conflict.proofs.laws.guarded_is_lawful.Goals as goal

pub returns : goal.returns
returns c = law.guarded_is_lawful
