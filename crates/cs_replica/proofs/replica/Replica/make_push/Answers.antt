use Rattle.cs_pending.specs.position.Shows.{ShowsSomeAt}
use Rattle.cs_exchange.specs.declared.pushing.fault.PushFault.TheVariants.{Device}
use Rattle.cs_exchange.specs.pushing.Pushes.{IsPushMadeIn}
use Rattle.cs_replica.proofs.Stepped.{once_leaves, pushed_to}
use Rattle.cs_replica.proofs.replica.Replica.make_push.Goals as goal

pub returns-clause-writes : goal.returns-clause-writes
returns-clause-writes g c = rw (← c.self.view_is) c.make_push-pushed.ensures.writes

pub returns-clause-turned : goal.returns-clause-turned
returns-clause-turned g c =
    rw (← c.self.view_is)
    (pushed_to g.S.RowStore c.self.inside.catalog c.self.inside.store c.make_push-pushed.new.store c.self.inside.position c.make_push-pushed.new.position c.make_push-pushed.result
    c.make_push-pushed.ensures.writes c.make_push-pushed.ensures.moved c.make_push-pushed.ensures.made c.make_push-pushed.ensures.refused c.make_push-pushed.ensures.kept)

pub returns-clause-left : goal.returns-clause-left
returns-clause-left g c =
    rw (← c.self.view_is)
    (once_leaves g.S.RowStore c.self.inside.catalog c.self.inside.store c.make_push-pushed.new.store c.self.inside.position c.make_push-pushed.new.position c.shown.ensures.shown c.shown.ensures.fits
    c.one_position.ensures (IsPushMadeIn c.self.inside.catalog) Device (ShowsSomeAt c.self.inside.catalog c.self.inside.position (g.S.RowStore.contents c.self.inside.store))
    (IsPushMadeIn c.self.inside.catalog c.self.inside.position (g.S.RowStore.contents c.self.inside.store))
    c.make_push-pushed.result c.make_push-pushed.ensures.writes c.make_push-pushed.ensures.kept (λ left made. made))

pub returns-clause-counts : goal.returns-clause-counts
returns-clause-counts g c = rw (← c.self.view_is) (record { later = c.make_push-pushed.ensures.writes.later; cause = c.make_push-pushed.ensures.writes.cause })
