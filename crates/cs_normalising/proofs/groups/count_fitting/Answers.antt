use Rattle.std.proofs.Common.{map}
use Rattle.cs_normal.specs.Placed.{table_name}
use Rattle.cs_normalising.proofs.Placed.{as_lent}
use Rattle.cs_normalising.proofs.groups.count_fitting.Goals as goal

pub fitting_headers-requires : goal.fitting_headers-requires
fitting_headers-requires c =
    let names = rw c.tables.ensures.same at c.in_ok-names.ensures in
    as_lent (map table_name c.args.catalog.now) c.as_ref.result (rw (← c.as_ref.ensures.value) at names)
