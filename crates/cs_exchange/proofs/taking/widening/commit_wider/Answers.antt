use Rattle.cs_pending.specs.Storing.{committed, not_committed}
use Rattle.cs_exchange.proofs.TakingLemmas.Widened.{committed_wider}
use Rattle.cs_exchange.proofs.taking.widening.commit_wider.Goals as goal

pub returns-clause-writes : goal.returns-clause-writes
returns-clause-writes g c =
    not_committed g.S.RowStore _ _ _ _ c.args.store.now c.commit.new.self
    (λ honest. committed_wider c.commit_shows_others.ensures c.commits.ensures.rows c.commits.ensures.pending c.args.catalog.now c.args.wide.now c.args.position.now c.args.next c.args.settling _ c.in_ok-batch.batch c.in_ok-batch.ensures c.requires)
    c.in-Err.ensures

pub returns-in-Ok-clause-writes : goal.returns-in-Ok-clause-writes
returns-in-Ok-clause-writes g c =
    committed g.S.RowStore _ _ _ _ c.args.store.now c.commit.new.self _ _
    (λ honest. committed_wider c.commit_shows_others.ensures c.commits.ensures.rows c.commits.ensures.pending c.args.catalog.now c.args.wide.now c.args.position.now c.args.next c.args.settling _ c.in_ok-batch.batch c.in_ok-batch.ensures c.requires)
    c.in-Ok.ensures
