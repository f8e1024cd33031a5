use Rattle.cs_pending.proofs.OutgoingLemmas.Exists.{pending_is_outgoing}
use Rattle.cs_pending.proofs.outgoing.laws.pending_is_outgoing.Goals as goal

pub returns : goal.returns
returns c =
    pending_is_outgoing (λ tables are. record { are = are; one = c.catalogs.ensures.place; key = c.one_key_stands.ensures; net_takes = c.net_takes.ensures; headers = c.headers_fit.ensures })
    c.catalog_is_apart.ensures c.fitting_is_normal.ensures
