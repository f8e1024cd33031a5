use Rattle.cs_column_bytes.proofs.Groups as law
use Rattle.cs_column_bytes.proofs.laws.same_length.Goals as goal

pub returns : goal.returns
returns c = law.same_length
