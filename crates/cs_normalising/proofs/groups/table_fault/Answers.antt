use Rattle.cs_normalising.proofs.PerTable.{have_keys}
use Rattle.cs_normalising.proofs.groups.table_fault.Goals as goal

pub returns-in_default : goal.returns-in_default
returns-in_default c = have_keys c.in_default.ensures.normal
