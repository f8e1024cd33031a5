use Rattle.cs_pending.proofs.settling.Settling.settle.Goals as goal

pub returns-clause-settled : goal.returns-clause-settled
returns-clause-settled c = λ tables contents begun view are found base_stands mine_stands stands settles.
    (rw (c.as_ref.ensures.value, c.lent-stood.ensures, c.as_ref-2.ensures.value, c.lent-stood_base.ensures) at c.settle_at.ensures.settled)
    tables contents begun view are found base_stands mine_stands stands settles
