use Rattle.cs_exchange.proofs.taking.reading.settle_at.Goals as goal

pub returns-clause-settled : goal.returns-clause-settled
returns-clause-settled c = λ tables contents begun view are at base mine stands settles.
    (rw (c.as_ref.ensures.value, c.lent-base.ensures, c.as_ref-2.ensures.value, c.lent-mine.ensures) at c.settle.ensures.settled) tables contents begun view are at base mine stands settles
