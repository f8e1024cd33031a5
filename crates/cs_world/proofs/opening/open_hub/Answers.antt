use Rattle.std.proofs.Common.{[]}
use Rattle.cs_world.proofs.Begun.{hub_alone}
use Rattle.cs_world.proofs.opening.open_hub.Goals as goal

pub returns-in-Ok-clause-alone : goal.returns-in-Ok-clause-alone
returns-in-Ok-clause-alone g c =
    hub_alone g.S.RowStore _ _ _ c.args.store c.in-Ok.hub.store tt c.in-Ok.ensures.opens c.requires c.in-Ok.hub.catalog [] (λ h. (c.in-Ok.ensures.fresh h c.requires).0)
