use Rattle.cs_normalising.proofs.HeadersHave as law
use Rattle.cs_normalising.proofs.laws.headers_have_tables.Goals as goal

pub returns : goal.returns
returns c = law.headers_have_tables
