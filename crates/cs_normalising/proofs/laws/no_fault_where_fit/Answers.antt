use Rattle.cs_normalising.proofs.OneUnfit as law
use Rattle.cs_normalising.proofs.laws.no_fault_where_fit.Goals as goal

pub returns : goal.returns
returns c = law.no_fault_where_fit
