use Rattle.cs_replica.proofs.EditCan.{edit_has_result}
use Rattle.cs_replica.proofs.laws.edit_has_result.Goals as goal

pub returns : goal.returns
returns c =
    edit_has_result (λ tables are. record { are = are; one = c.catalogs.ensures.place; key = c.one_key_stands.ensures; net_takes = c.net_takes.ensures })
    c.set_columns_fit.ensures
