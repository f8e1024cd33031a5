use Rattle.cs_column_bytes.proofs.Catalogs as law
use Rattle.cs_column_bytes.proofs.laws.heads_of_catalog.Goals as goal

pub returns : goal.returns
returns c = law.heads_of_catalog
