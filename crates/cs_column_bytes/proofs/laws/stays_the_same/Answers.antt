use Rattle.cs_column_bytes.proofs.Groups as law
use Rattle.cs_column_bytes.proofs.laws.stays_the_same.Goals as goal

pub returns : goal.returns
returns c = law.stays_the_same c.normal_is_taken.ensures
