use Rattle.cs_group.proofs.Found.{combined_or_fault}
use Rattle.cs_group.proofs.laws.combined_or_fault.Goals as goal

pub returns : goal.returns
returns c = combined_or_fault c.form_laws.ensures c.catalog_or_header_fault.ensures c.form_or_unfit.ensures
