use Rattle.cs_conflict.proofs.Picking as law
use Rattle.cs_conflict.proofs.laws.not_found_is_covered.Goals as goal

pub returns : goal.returns
returns c = law.not_found_is_covered
