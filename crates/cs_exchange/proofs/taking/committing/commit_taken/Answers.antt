use Rattle.cs_pending.specs.Storing.{committed, not_committed}
use Rattle.cs_exchange.proofs.TakingLemmas.Committed.{committed_in}
use Rattle.cs_exchange.proofs.taking.committing.commit_taken.Goals as goal

pub returns-clause-writes : goal.returns-clause-writes
returns-clause-writes g c =
    not_committed g.S.RowStore _ _ _ _ c.args.store.now c.commit.new.self
    (λ honest. committed_in c.commit_shows.ensures c.commits.ensures.rows c.commits.ensures.pending c.args.catalog.now c.args.position.now c.args.next c.args.settling _ c.in_ok-batch.batch c.in_ok-batch.ensures c.requires.within)
    c.in-Err.ensures

pub returns-in-Ok-clause-writes : goal.returns-in-Ok-clause-writes
returns-in-Ok-clause-writes g c =
    committed g.S.RowStore _ _ _ _ c.args.store.now c.commit.new.self _ _
    (λ honest. committed_in c.commit_shows.ensures c.commits.ensures.rows c.commits.ensures.pending c.args.catalog.now c.args.position.now c.args.next c.args.settling _ c.in_ok-batch.batch c.in_ok-batch.ensures c.requires.within)
    c.in-Ok.ensures
