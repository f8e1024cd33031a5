use Rattle.cs_pending.proofs.Kept.{edit_keeps_before}
use Rattle.cs_pending.proofs.laws.edit_keeps_before.Goals as goal

pub returns : goal.returns
returns c = edit_keeps_before (λ tables are. record { are = are; one = c.catalogs.ensures.place; key = c.one_key_stands.ensures; net_takes = c.net_takes.ensures })
