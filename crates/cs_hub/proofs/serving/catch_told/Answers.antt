use Rattle.std.proofs.Common.{arith}
use Rattle.cs_store.specs.Calls.{MoreFailures}
use Rattle.cs_store.specs.declared.log.entry.TheConstants.{MAX_ENTRIES}
use Rattle.cs_hub.proofs.Answered.{caught_up}
use Rattle.cs_hub.proofs.serving.catch_told.Goals as goal

pub returns-in-Ok-clause-answered : goal.returns-in-Ok-clause-answered
returns-in-Ok-clause-answered g c = λ honest log shows.
    caught_up (MoreFailures (g.S.RowStore.failed c.args.store.now) (g.S.RowStore.failed c.told_at.new.store)) MAX_ENTRIES c.args.catalogs.now.opening log
    c.args.asker c.args.first c.args.limit c.in-Ok.answer.items (omega (arith, c.newest-newest.ensures, c.if-first-newest.false, shows.1))
    (c.in-Ok.ensures.told honest log shows)
