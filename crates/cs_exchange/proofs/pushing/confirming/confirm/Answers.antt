use Rattle.cs_pending.specs.Storing.{committed, not_committed}
use Rattle.cs_exchange.proofs.PushingLemmas.Confirmed.{confirmed_in}
use Rattle.cs_exchange.proofs.pushing.confirming.confirm.Goals as goal

pub returns-in-Err-clause-writes : goal.returns-in-Err-clause-writes
returns-in-Err-clause-writes g c =
    not_committed g.S.RowStore _ _ _ _ c.args.store.now c.commit.new.self
    (λ honest. confirmed_in c.commit_shows.ensures c.args.catalog.now c.args.position.now _ c.in_ok-batch.batch c.in_ok-batch.ensures)
    c.in-Err.ensures

pub returns-clause-writes : goal.returns-clause-writes
returns-clause-writes g c =
    committed g.S.RowStore _ _ _ _ c.args.store.now c.commit.new.self _ _
    (λ honest. confirmed_in c.commit_shows.ensures c.args.catalog.now c.args.position.now _ c.in_ok-batch.batch c.in_ok-batch.ensures)
    c.in-Ok.ensures
