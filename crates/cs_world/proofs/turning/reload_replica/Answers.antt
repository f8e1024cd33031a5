use Rattle.cs_world.proofs.Read.{reloaded_leaves}
use Rattle.cs_world.proofs.turning.reload_replica.Goals as goal

pub returns-clause-left : goal.returns-clause-left
returns-clause-left g c =
    reloaded_leaves g.S.RowStore c.args.replica.now c.reload.new.self c.reload.result c.reload.ensures.reopens c.reload.ensures.catalog c.reload.ensures.same

pub returns-clause-counts : goal.returns-clause-counts
returns-clause-counts g c = record { later = c.reload.ensures.reopens.later; cause = c.reload.ensures.reopens.cause }
