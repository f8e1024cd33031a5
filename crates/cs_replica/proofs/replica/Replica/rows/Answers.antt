use Rattle.std.proofs.Common.{refl}
use Rattle.cs_replica.proofs.Stepped.{reads_leave, unturned}
use Rattle.cs_replica.proofs.replica.Replica.rows.Goals as goal

pub returns-clause-turned : goal.returns-clause-turned
returns-clause-turned g c =
    rw (← c.self.view_is)
    (unturned g.S.RowStore c.self.inside.catalog c.self.inside.store c.rows_at.new.store c.self.inside.position c.self.inside.position c.rows_at.ensures.reads.was_honest c.rows_at.ensures.reads.same refl)

pub returns-clause-left : goal.returns-clause-left
returns-clause-left g c =
    rw (← c.self.view_is)
    (reads_leave g.S.RowStore c.self.inside.catalog c.self.inside.store c.rows_at.new.store c.self.inside.position c.self.inside.position _ _ c.rows_at.result c.rows_at.ensures.reads refl)

pub returns-clause-counts : goal.returns-clause-counts
returns-clause-counts g c = rw (← c.self.view_is) (record { later = c.rows_at.ensures.reads.later; cause = c.rows_at.ensures.reads.cause })
