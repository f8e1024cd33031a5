use Rattle.cs_conflict.proofs.Picking as law
use Rattle.cs_conflict.proofs.laws.lawful_stands.Goals as goal

pub returns : goal.returns
returns c = law.lawful_stands
