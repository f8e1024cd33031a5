use Rattle.cs_normal.proofs.Found.{catalog_or_header_fault}
use Rattle.cs_normal.proofs.laws.catalog_or_header_fault.Goals as goal

pub returns : goal.returns
returns c = catalog_or_header_fault c.catalogs.ensures
